-- Calls that keep their promises give what the plain room gives.
use mathlib.Core.Path.{◌≡◌, refl, sym, ap, ap₂, ◌∙◌}
use Prim.Native.Nat.{ℕ}
use mathlib.Core.Bool.{Bool, true, false, cond}
use mathlib.Core.List.{List, ◌∷◌}
use lib.ListN.{length}
use lib.Dec.{eqb}
use borrow.Author.Tests.{eqb-true}
use Rattle.unit.specs.Sensing.{Sensing, detect, Laws}
use Rattle.unit.specs.Walk.{Walked, run_of, returned, space_after}
use Rattle.unit.specs.Unit.{View, unit, unit_reply, unit_asked}
use Rattle.unit.specs.Room.{Room, new_room, now, plain}
use Rattle.unit.specs.Calls.{Return, begun, ran, replied, Call, begin, run, ask, begin_refusal, room_return, room_after, returns}
use Rattle.unit.specs.Promises.{Memory, NewMemory, Begun, RanSo, AskedSo, meant, refused_run, Kept, begins, runs, asks, Keeps}
use Rattle.unit.specs.Demand3.{Execution, done, call, AsThePlainRoom}
use Rattle.unit.specs.declared.Ran.{Ran}
use Rattle.unit.proofs.Walking.{leaving}
use Rattle.unit.proofs.Reached.{Reached, reached-new, reached-run, reached-after, suits-by}
use Rattle.unit.proofs.Rooms.{meaning, fed-note, run-alike}

module _ (S : Sensing) (laws : Laws S) (M : Memory S) (new-memory : NewMemory S M) where
  -- a memory that the unit left, and the room whose L it has accepted
  pub record Holds (m : List ℕ) (room : Room S) : Type 0 where
    pub is-good : M.good m ≡ true
    pub means : M.view m ≡ meaning S room
    pub reached : Reached S (length m) room

  pub record Goes (m : List ℕ) (c : Call S) (r : Return S) (m' : List ℕ) (room : Room S) : Type 0 where
    pub same : r ≡ room_return S (length m) room c
    pub long : length m' ≡ length m
    pub holds : Holds m' (room_after S (length m) room c)

  -- an accepted beginning, whatever the memory held
  pub record New (m m' : List ℕ) (g : S.Given) : Type 0 where
    pub long : length m' ≡ length m
    pub holds : Holds m' (new_room S (S.settings g))

  is-new : (m m' : List ℕ) (g : S.Given) → begin_refusal S g (length m) ≡ 0 → m' ≡ M.new g → New m m' g
  unfolding detect
  is-new m m' g ok is =
      let f = suits-by (S.legal g) (length m) (S.memory_size (S.settings g)) ok in
      let long : length m' ≡ length m = ap length is ∙ new-memory.long g f.in-range ∙ sym f.as_long in
      record {
        long = long;
        holds = record {
          is-good = ap M.good is ∙ new-memory.is-good g f.in-range;
          means = ap M.view is ∙ new-memory.is-new g f.in-range;
          reached = reached-new S (length m') g (ap (begin_refusal S g) long ∙ ok);
        };
      }

  begin-goes : (m : List ℕ) (g : S.Given) (r : ℕ) (m' : List ℕ) (room : Room S) → Begun S M g m r m' → Holds m room
      → Goes m (begin g) (begun r) m' room
  begin-goes m g r m' room B h = go (eqb (begin_refusal S g (length m)) 0) refl B.leaves
    where
      go : (b : Bool) → eqb (begin_refusal S g (length m)) 0 ≡ b → m' ≡ cond b (M.new g) m → Goes m (begin g) (begun r) m' room
      go true e is =
          let n = is-new m m' g (eqb-true _ _ e) is in
          record { same = ap begun B.answer; long = n.long; holds = rw e n.holds }
      go false e is = record { same = ap begun B.answer; long = ap length is; holds = rw e (rw is h) }

  module _ (m records space : List ℕ) (r : Ran) (m' space' : List ℕ) (room : Room S) (R : RanSo S M m records space r m' space') (h : Holds m room) where
    meant-as : meant S M m records space ≡ leaving S (meaning S) (run_of S (plain S) room records (length space))
    meant-as = ap (λ (v : View S). run_of S (unit S) v records (length space)) h.means ∙ run-alike S laws records (length space) h.reached

    run-goes : Goes m (run records space) (ran r space') m' room
    run-goes =
        record {
          same = ap₂ ran
              (R.answer ∙ ap (λ (b : Bool). cond b (returned S (meant S M m records space)) refused_run) h.is-good ∙ ap (returned S) meant-as)
              (R.writes ∙ ap (λ (b : Bool). cond b (space_after S (meant S M m records space) space) space) h.is-good
              ∙ ap (λ (x : Walked S (View S)). space_after S x space) meant-as);
          long = R.long;
          holds = record {
            is-good = R.is-good h.is-good;
            means = R.is-next h.is-good ∙ ap {A = Walked S (View S)} (λ x. x.state) meant-as;
            reached = rw R.long (reached-run S laws records (length space) h.reached);
          };
        }

  ask-goes : (m : List ℕ) (a : S.Asked) (r : S.Reply) (m' : List ℕ) (room : Room S) → AskedSo S M m a r m' → Holds m room → Goes m (ask a) (replied r) m' room
  ask-goes m a r m' room A h =
      record {
        same = ap replied (A.answer ∙ ap (λ (b : Bool). cond b (unit_reply S (M.view m) a) (S.unfit a)) h.is-good ∙ ap (λ (v : View S). unit_reply S v a) h.means);
        long = A.long;
        holds = record {
          is-good = A.is-good h.is-good;
          means = A.is-next h.is-good ∙ ap (λ (v : View S). unit_asked S v a) h.means ∙ fed-note S room (S.notes (now S room).settings (now S room).held a);
          reached = rw A.long (reached-after S laws (ask a) h.reached);
        };
      }

  goes : {m m' : List ℕ} {c : Call S} {r : Return S} (room : Room S) → Kept S M m c r m' → Holds m room → Goes m c r m' room
  goes room (begins {m = m} {m' = m'} {g = g} {r = r} B) h = begin-goes m g r m' room B h
  goes room (runs {m = m} {m' = m'} {records = b} {space = s} {space' = t} {r = r} R) h = run-goes m b s r m' t room R h
  goes room (asks {m = m} {m' = m'} {a = a} {r = r} A) h = ask-goes m a r m' room A h

  first : {m m' : List ℕ} {g : S.Given} {r : Return S} → begin_refusal S g (length m) ≡ 0 → Kept S M m (begin g) r m' → (r ≡ begun 0) × New m m' g
  first ok (begins {m = m} {m' = m'} {g = g} {r = r} B) =
      (ap begun (B.answer ∙ ok), is-new m m' g ok (B.leaves ∙ ap (λ (n : ℕ). cond (eqb n 0) (M.new g) m) ok))

  module _ (Called : List ℕ → Call S → Return S → List ℕ → Type 0) (keeps : Keeps S M Called) where
    from-here : {m m' : List ℕ} {cs : List (Call S)} {rs : List (Return S)} (room : Room S) → Execution S Called m cs rs m' → Holds m room
        → rs ≡ returns S (length m) room cs
    unfolding returns
    from-here room done h = refl
    from-here room (call {m = m} {m' = n} {c = c} {r = r} {cs = cs} C E) h =
        let g = goes room (keeps m c r n C) h in
        ap₂ {A = Return S} {B = List (Return S)} ◌∷◌ g.same
        (from-here (room_after S (length m) room c) E g.holds
        ∙ ap (λ (k : ℕ). returns S k (room_after S (length m) room c) cs) g.long)

    started : {m m' : List ℕ} {g : S.Given} {cs : List (Call S)} {rs : List (Return S)} → Execution S Called m (begin g ∷ cs) rs m'
        → begin_refusal S g (length m) ≡ 0 → rs ≡ begun 0 ∷ returns S (length m) (new_room S (S.settings g)) cs
    started {g = g} (call {m = m} {m' = n} {r = r} {cs = cs} C E) ok =
        let f = first ok (keeps m (begin g) r n C) in
        ap₂ {A = Return S} {B = List (Return S)} ◌∷◌ f.0
        (from-here (new_room S (S.settings g)) E f.1.holds ∙ ap (λ (k : ℕ). returns S k (new_room S (S.settings g)) cs) f.1.long)

    pub as-the-plain-room : AsThePlainRoom S Called
    as-the-plain-room m g cs rs life = started life.calls life.accepted
