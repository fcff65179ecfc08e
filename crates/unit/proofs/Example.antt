-- A small sensing, memory and unit that meet all that is asked of them, so that demand 3 holds of something; and two runs, computed.
use mathlib.Core.Path.{◌≡◌, refl, sym, ap, ◌∙◌}
use Prim.Native.Nat.{ℕ, ◌+◌, min}
use native.Mathlib.Omega.{arith}
use mathlib.Core.Bool.{Bool, true, false, cond, ◌&&◌}
use mathlib.Core.Option.{Option, none, some}
use mathlib.Core.List.{List, [], ◌∷◌, ◌++◌}
use lib.ListN.{length, get_or, replicate}
use lib.Dec.{ltb, leb, eqb}
use borrow.Author.Tests.{eqb-true, ltb-true, ltb-false, lt-ltb, le-ltb}
use Rattle.unit.specs.Records.{Mark, watched, calibrated, Event, took, noted, kinds_for, Cut, cut, cut_f}
use Rattle.unit.specs.Sensing.{Sensing, Now, after, counted, how_many, detect, Laws, WarmUp, Warms}
use Rattle.unit.specs.Walk.{Walked, walk, run_of, returned, space_after}
use Rattle.unit.specs.Unit.{View, unit_reply, unit_asked, fed_note}
use Rattle.unit.specs.Room.{Room, new_room, plain}
use Rattle.unit.specs.Calls.{Return, begun, ran, replied, Call, begin, run, ask, begin_refusal}
use Rattle.unit.specs.Promises.{Memory, NewMemory, meant, refused_run, RanSo, AskedSo, Kept, begins, runs, asks, Keeps}
use Rattle.unit.specs.Demand3.{Demand3}
use Rattle.num.proofs.Logic.{never}
use Rattle.num.proofs.Cond.{no_none}
use Rattle.unit.proofs.Cutting.{sizes}
use Rattle.unit.proofs.Refusals.{all-refused-same}
use Rattle.unit.proofs.Filling.{Fills, warms-by, many-took, many-noted}
use Rattle.unit.proofs.Demand3.{demand3}

-- ---- a sensing: W is 1 to 8; a sample is a tag from 1 to 4, a value and a 1; a full window says the last value

record Window : Type 0 where
  filled : ℕ
  calibrated-so-far : ℕ

data Finding : Type 0 where
  warming : Finding
  value : ℕ → Finding
  frames : ℕ → Finding

abbrev fed_as : Mark → ℕ → Window → Window
fed_as watched w h = record { filled = min w (h.filled + 1); calibrated-so-far = h.calibrated-so-far }
fed_as calibrated w h = record { filled = h.filled; calibrated-so-far = h.calibrated-so-far + 1 }

abbrev found_as : Mark → ℕ → Window → (value : ℕ) → Finding
found_as watched w h v = cond (ltb (min w (h.filled + 1)) w) warming (value v)
found_as calibrated w h v = frames (h.calibrated-so-far + 1)

abbrev feeds : ℕ → Window → Event → Window
feeds w h (took k body) = fed_as k w h
feeds w h (noted n body) = record { filled = h.filled; calibrated-so-far = 0 }

abbrev finds : ℕ → Window → Event → Finding
finds w h (took k body) = found_as k w h (get_or body 1 0)
finds w h (noted n body) = frames 0

abbrev finding_bytes : Finding → List ℕ
finding_bytes warming = 1 ∷ 0 ∷ 0 ∷ []
finding_bytes (value v) = 2 ∷ v ∷ 0 ∷ []
finding_bytes (frames n) = 3 ∷ n ∷ 0 ∷ []

-- the host asks how many samples calibrate, or begins a new baseline
data Question : Type 0 where
  how-many renew : Question

abbrev note_for : Question → Option ℕ
note_for how-many = none
note_for renew = some 1

abbrev small : Sensing
small =
    record {
      Given = ℕ;
      Settings = ℕ;
      legal = λ w. leb 1 w && leb w 8;
      settings = λ w. w;
      memory_size = λ _. 4;
      adjust = λ w n b. w;
      kinds = kinds_for 3;
      bytes_refusal = λ w b. cond (eqb (get_or b 2 0) 1) (cond (leb 1 (get_or b 0 0) && leb (get_or b 0 0) 4) 0 4) 3;
      tag = λ b. get_or b 0 0;
      limit = 5;
      renews = λ n. true;
      Held = Window;
      Finding = Finding;
      fresh = λ _. record { filled = 0; calibrated-so-far = 0 };
      feed = feeds;
      find = finds;
      releases = λ w h e. none;
      frames = λ h. h.calibrated-so-far;
      Asked = Question;
      Reply = ℕ;
      reply = λ w h q. h.calibrated-so-far;
      notes = λ w h q. note_for q;
      unfit = λ q. 99;
      answer_size = 3;
      refused_bytes = λ n at. 0 ∷ n ∷ at ∷ [];
      restarted_bytes = 4 ∷ 0 ∷ 0 ∷ [];
      told_bytes = finding_bytes;
    }

frames-by : (w : ℕ) (h : Window) (e : Event) → (feeds w h e).calibrated-so-far ≡ counted small h.calibrated-so-far e
frames-by w h (took watched body) = omega arith
frames-by w h (took calibrated body) = refl
frames-by w h (noted n body) = refl

-- a tag from 1 to 4 is not 0
tagged : (b : List ℕ) → small.bytes_refusal 0 b ≡ 0 → get_or b 0 0 ≡ 0 → ⊥
tagged b h z = go (eqb (get_or b 2 0) 1) h
  where
    go : (c : Bool) → ◌≡◌ {A = ℕ} (cond c (cond (leb 1 (get_or b 0 0) && leb (get_or b 0 0) 4) 0 4) 3) 0 → ⊥
    go true h = let e : ◌≡◌ {A = ℕ} (cond (leb 1 0 && leb 0 4) 0 4) 0 = ap (λ (n : ℕ). cond (leb 1 n && leb n 4) 0 4) (sym z) ∙ h in omega (arith, e)
    go false h = omega (arith, h)

size-by : (f : Finding) → length (finding_bytes f) ≡ 3
size-by warming = refl
size-by (value v) = refl
size-by (frames n) = refl

laws : Laws small
laws =
    record {
      some-may-calibrate = omega arith;
      no_frames = λ σ. refl;
      frames-fed = frames-by;
      tagged = λ w. tagged;
      none-waits = λ w e. refl;
      adjusts = λ g n b ok. (g, ok, refl);
      adjusts-size = λ w n b. refl;
      adjusts-bytes = λ w n b c. refl;
      refused-size = λ n at. refl;
      restarted-size = refl;
      told-size = size-by;
    }

abbrev says_warming : Finding → Bool
says_warming warming = true
says_warming (value v) = false
says_warming (frames n) = false

-- it is a watch line
abbrev is_line : Finding → Bool
is_line warming = true
is_line (value v) = true
is_line (frames n) = false

record Filled (w : ℕ) (L : List Event) (x : Now small) : Type 0 where
  same : x.settings ≡ w
  so-many : x.held.filled ≡ min w (how_many watched L)

filled-by : (w : ℕ) (L : List Event) (x : Now small) (e : Event) → Filled w L x → Filled w (L ++ e ∷ []) (after small x e)
filled-by w L x (took watched body) f = record { same = f.same; so-many = omega (arith, f.same, f.so-many, many-took watched watched body L) }
filled-by w L x (took calibrated body) f = record { same = f.same; so-many = omega (arith, f.so-many, many-took watched calibrated body L) }
filled-by w L x (noted n body) f = record { same = f.same; so-many = f.so-many ∙ ap (min w) (sym (many-noted watched n body L)) }

says : (w : ℕ) (L : List Event) (x : Now small) (e : Event) → Filled w L x → is_line (finds x.settings x.held e) ≡ true
    → says_warming (finds x.settings x.held e) ≡ ltb (how_many watched (L ++ e ∷ [])) w
says w L x (took watched body) f h =
    said (ltb (min x.settings (x.held.filled + 1)) x.settings) (get_or body 1 0) ∙ go (ltb (how_many watched (L ++ took watched body ∷ [])) w) refl
  where
    said : (b : Bool) (v : ℕ) → says_warming (cond b warming (value v)) ≡ b
    said true v = refl
    said false v = refl

    go : (c : Bool) → ltb (how_many watched (L ++ took watched body ∷ [])) w ≡ c → ltb (min x.settings (x.held.filled + 1)) x.settings ≡ c
    go true e = lt-ltb (min x.settings (x.held.filled + 1)) x.settings (omega (arith, f.same, f.so-many, many-took watched watched body L, ltb-true (how_many watched (L ++ took watched body ∷ [])) w e))
    go false e = le-ltb (min x.settings (x.held.filled + 1)) x.settings (omega (arith, f.same, f.so-many, many-took watched watched body L, ltb-false (how_many watched (L ++ took watched body ∷ [])) w e))
says w L x (took calibrated body) f h = absurd (never h)
says w L x (noted n body) f h = absurd (never h)

abbrev shows : WarmUp small
shows = record { width = λ w. w; line = is_line; says = says_warming; fed_in = how_many watched }

fills : Fills small shows
fills =
    record {
      Fed = λ w t L x. Filled w L x;
      new = λ g t ok. record { same = refl; so-many = omega arith };
      fed = λ w t L x e f _. filled-by w L x e f;
      own = λ w t L x e f _. says w L x e f;
      released = λ w t L x e f _ h. no_none h;
    }

warms : Warms small shows
warms = warms-by small shows fills

-- ---- a memory of four numbers

abbrev stored : View small → List ℕ
stored v = v.settings ∷ v.tag ∷ v.held.filled ∷ v.held.calibrated-so-far ∷ []

abbrev four : Memory small
four =
    record {
      new = λ w. w ∷ 0 ∷ 0 ∷ 0 ∷ [];
      good = λ m. eqb (length m) 4;
      view = λ m. record { settings = get_or m 0 0; tag = get_or m 1 0; held = record { filled = get_or m 2 0; calibrated-so-far = get_or m 3 0 } };
    }

four-new : NewMemory small four
four-new = record { is-good = λ g ok. refl; is-new = λ g ok. refl; long = λ g ok. refl }

stored_back : (m : List ℕ) → length m ≡ 4 → stored (four.view m) ≡ m
stored_back [] h = absurd (omega arith)
stored_back (a ∷ []) h = absurd (omega arith)
stored_back (a ∷ b ∷ []) h = absurd (omega arith)
stored_back (a ∷ b ∷ c ∷ []) h = absurd (omega arith)
stored_back (a ∷ b ∷ c ∷ d ∷ []) h = refl
stored_back (a ∷ b ∷ c ∷ d ∷ e ∷ l) h = absurd (omega arith)

-- ---- a unit, as a function of the memory and the call

abbrev gives : List ℕ → Call small → Return small
gives m (begin w) = begun (begin_refusal small w (length m))
gives m (run records space) =
    let w = meant small four m records space in
    ran (cond (eqb (length m) 4) (returned small w) refused_run) (cond (eqb (length m) 4) (space_after small w space) space)
gives m (ask q) = replied (cond (eqb (length m) 4) (unit_reply small (four.view m) q) 99)

abbrev leaves : List ℕ → Call small → List ℕ
leaves m (begin w) = cond (eqb (begin_refusal small w (length m)) 0) (four.new w) m
leaves m (run records space) = cond (eqb (length m) 4) (stored (meant small four m records space).state) m
leaves m (ask q) = cond (eqb (length m) 4) (stored (unit_asked small (four.view m) q)) m

data Called : List ℕ → Call small → Return small → List ℕ → Type 0 where
  called : (m : List ℕ) (c : Call small) → Called m c (gives m c) (leaves m c)

ran-so : (m records space : List ℕ)
    → RanSo small four m records space (cond (eqb (length m) 4) (returned small (meant small four m records space)) refused_run)
    (cond (eqb (length m) 4) (stored (meant small four m records space).state) m)
    (cond (eqb (length m) 4) (space_after small (meant small four m records space) space) space)
ran-so m records space =
    record {
      answer = refl;
      writes = refl;
      is-good = λ g. ap (λ (b : Bool). eqb (length (cond b (stored v) m)) 4) g;
      is-next = λ g. ap (λ (b : Bool). four.view (cond b (stored v) m)) g;
      refused = λ g. ap (λ (b : Bool). cond b (stored v) m) g;
      unchanged = λ g h.
          ap (λ (b : Bool). cond b (stored v) m) g ∙ ap stored (all-refused-same small (four.view m) records (length space) h)
          ∙ stored_back m (eqb-true _ _ g);
      long = as_long (eqb (length m) 4) refl;
    }
  where
    v : View small
    v = (meant small four m records space).state

    as_long : (b : Bool) → eqb (length m) 4 ≡ b → length (cond b (stored v) m) ≡ length m
    as_long true e = sym (eqb-true _ _ e)
    as_long false e = refl

asked-so : (m : List ℕ) (q : Question) → AskedSo small four m q (cond (eqb (length m) 4) (unit_reply small (four.view m) q) 99)
    (cond (eqb (length m) 4) (stored (unit_asked small (four.view m) q)) m)
asked-so m q =
    record {
      answer = refl;
      is-good = λ g. ap (λ (b : Bool). eqb (length (cond b (stored v) m)) 4) g;
      is-next = λ g. ap (λ (b : Bool). four.view (cond b (stored v) m)) g;
      refused = λ g. ap (λ (b : Bool). cond b (stored v) m) g;
      unchanged = λ g h.
          ap (λ (b : Bool). cond b (stored v) m) g ∙ ap (λ (o : Option ℕ). stored (fed_note small (four.view m) o)) h ∙ stored_back m (eqb-true _ _ g);
      long = as_long (eqb (length m) 4) refl;
    }
  where
    v : View small
    v = unit_asked small (four.view m) q

    as_long : (b : Bool) → eqb (length m) 4 ≡ b → length (cond b (stored v) m) ≡ length m
    as_long true e = sym (eqb-true _ _ e)
    as_long false e = refl

keeps-call : (m : List ℕ) (c : Call small) → Kept small four m c (gives m c) (leaves m c)
keeps-call m (begin w) = begins (record { answer = refl; leaves = refl })
keeps-call m (run records space) = runs (ran-so m records space)
keeps-call m (ask q) = asks (asked-so m q)

keeps : Keeps small four Called
keeps m c r m' C = by C
  where
    by : {n n' : List ℕ} {d : Call small} {q : Return small} → Called n d q n' → Kept small four n d q n'
    by (called n d) = keeps-call n d

-- demand 3 of this unit
example : Demand3 small Called shows
example = demand3 small laws four four-new Called keeps shows warms

-- ---- two runs, computed

-- a reset, a sample and an unknown kind: three answers, of which the last is 9 at byte 5, and five bytes used
a-run : Walked small (Room small)
a-run = run_of small (plain small) (new_room small 2) (3 ∷ 1 ∷ 2 ∷ 77 ∷ 1 ∷ 7 ∷ 9 ∷ []) 10

computed-return : returned small a-run ≡ record { refusal = 0; need = 0; answers = 3; used = 5 }
unfolding a-run walk cut cut_f detect
computed-return = refl

computed-space : space_after small a-run (replicate 10 200) ≡ 4 ∷ 0 ∷ 0 ∷ 1 ∷ 0 ∷ 0 ∷ 0 ∷ 9 ∷ 5 ∷ 200 ∷ []
unfolding a-run walk cut cut_f detect
computed-space = refl

-- a stream: a reset, a sample of 141 bytes, and a byte 7 at 143 that begins no record
listing : Cut
listing = cut (kinds_for 141) (3 ∷ 1 ∷ replicate 141 0 ++ 7 ∷ [])

listing-whole : (sizes listing.records ≡ 143) × (listing.torn ≡ true)
unfolding listing cut cut_f
listing-whole = (refl, refl)
