-- Where no kind of record is a note and no call of the host's is one, L holds samples alone.
use mathlib.Core.Path.{◌≡◌, sym, ap, ◌∙◌, subst}
use Prim.Native.Nat.{ℕ, zero, suc}
use mathlib.Core.Bool.{Bool, true, false, cond}
use mathlib.Core.Option.{Option, none, some}
use mathlib.Core.List.{List, [], ◌∷◌, ◌++◌}
use lib.ListN.{length, take, drop}
use lib.Dec.{leb, eqb}
use Rattle.unit.specs.Records.{Mark, Meaning, sample, reset, note, look, Kind, Record, whole, size, Event, took, noted, kind_of, bodied, first_of, Cut, follow, cut_f, cut}
use Rattle.unit.specs.Sensing.{Sensing, Now}
use Rattle.unit.specs.Walk.{run_of}
use Rattle.unit.specs.Room.{Room, new_room, now, in_force, left, joined, refusal_of, other_tag, room_next, plain, with_note}
use Rattle.unit.specs.Calls.{Call, begin, run, ask, begin_refusal, room_after, room_then}
use Rattle.unit.specs.Places.{room_before, OnlySamples, SamplesAlone}
use Rattle.unit.proofs.Walking.{Every, walk-keeps-of}
use Rattle.unit.proofs.Reached.{now-joined}
use Rattle.unit.proofs.Boundaries.{in-force-new}

abbrev pub NoNote : Meaning → Type 0
NoNote (sample k) = Unit {0}
NoNote reset = Unit {0}
NoNote (note n) = ⊥
NoNote (look n) = Unit {0}

abbrev pub NoNotes : List Kind → Type 0
NoNotes [] = Unit {0}
NoNotes (k ∷ ks) = NoNote k.means × NoNotes ks

abbrev bare : Record → Type 0
bare (whole m body) = NoNote m

-- ---- the records of a run are of its kinds
abbrev Bares : Option Record → Type 0
Bares none = Unit {0}
Bares (some r) = bare r

kind-bare : (ks : List Kind) (n : ℕ) (rest : List ℕ) → NoNotes ks → Bares (bodied (kind_of ks n) rest)
kind-bare [] n rest h = tt
kind-bare (k ∷ ks) n rest h = go (eqb k.number n) (kind-bare ks n rest h.1)
  where
    short : (c : Bool) → Bares (cond c (some (whole k.means (take k.body_size rest))) none)
    short true = h.0
    short false = tt

    go : (b : Bool) → Bares (bodied (kind_of ks n) rest) → Bares (bodied (cond b (some k) (kind_of ks n)) rest)
    go true f = short (leb k.body_size (length rest))
    go false f = f

follow-bare : (o : Option Record) (bytes : List ℕ) (go : List ℕ → Cut) → Bares o → ((l : List ℕ) → Every bare (go l).records) → Every bare (follow o bytes go).records
follow-bare none bytes go h f = tt
follow-bare (some r) bytes go h f = (h, f (drop (size r) bytes))

cut-bare : (ks : List Kind) → NoNotes ks → (f : ℕ) (bytes : List ℕ) → Every bare (cut_f ks f bytes).records
unfolding cut_f
cut-bare ks h zero [] = tt
cut-bare ks h zero (n ∷ rest) = tt
cut-bare ks h (suc f) [] = tt
cut-bare ks h (suc f) (n ∷ rest) = follow-bare (first_of ks n rest) (n ∷ rest) (λ l. cut_f ks f l) (kind-bare ks n rest h) (λ l. cut-bare ks h f l)

module _ (S : Sensing) (no-notes : NoNotes S.kinds) (none-stores : (σ : S.Settings) (h : S.Held) (a : S.Asked) → S.notes σ h a ≡ none) where
  all-bare : (bytes : List ℕ) → Every bare (cut S.kinds bytes).records
  unfolding cut
  all-bare bytes = cut-bare S.kinds no-notes (length bytes) bytes

  -- ---- samples alone
  pub record Alone (room : Room S) : Type 0 where
    pub samples : OnlySamples S room.L
    pub settings : in_force S room ≡ room.settings

  alone-new : (σ : S.Settings) → Alone (new_room S σ)
  alone-new σ = record { samples = tt; settings = in-force-new S σ }

  only-append : (L : List Event) (k : Mark) (body : List ℕ) → OnlySamples S L → OnlySamples S (L ++ took k body ∷ [])
  only-append [] k body h = tt
  only-append (took m b ∷ L) k body h = only-append L k body h
  only-append (noted n b ∷ L) k body h = absurd h

  alone-joined : (room : Room S) (k : Mark) (body : List ℕ) → Alone room → Alone (joined S room (took k body))
  alone-joined room k body A =
      record {
        samples = only-append room.L k body A.samples;
        settings = ap {A = Now S} (λ x. x.settings) (now-joined S room (took k body)) ∙ A.settings;
      }

  alone-left : (room : Room S) (b : Bool) → Alone room → Alone (cond b (new_room S (in_force S room)) room)
  alone-left room true A = alone-new (in_force S room)
  alone-left room false A = A

  alone-next : (room : Room S) (r : Record) → bare r → Alone room → Alone (room_next S room r)
  alone-next room (whole (sample k) body) q A = go (eqb (refusal_of S room k body) 0)
    where
      go : (b : Bool) → Alone (cond b (joined S (left S room body) (took k body)) room)
      go true = alone-joined (left S room body) k body (alone-left room (other_tag S room.L body) A)
      go false = A
  alone-next room (whole reset body) q A = alone-new (in_force S room)
  alone-next room (whole (note n) body) q A = absurd q
  alone-next room (whole (look n) body) q A = A

  alone-run : (room : Room S) (records : List ℕ) (space : ℕ) → Alone room → Alone (run_of S (plain S) room records space).state
  alone-run room records space A =
      walk-keeps-of S (plain S) bare Alone alone-next room 0 space (cut S.kinds records).records (cut S.kinds records).torn (all-bare records) A

  alone-after : (n : ℕ) (room : Room S) (c : Call S) → Alone room → Alone (room_after S n room c)
  alone-after n room (begin g) A = go (eqb (begin_refusal S g n) 0)
    where
      go : (b : Bool) → Alone (cond b (new_room S (S.settings g)) room)
      go true = alone-new (S.settings g)
      go false = A
  alone-after n room (run records space) A = alone-run room records (length space) A
  alone-after n room (ask a) A =
      subst (λ (o : Option ℕ). Alone (with_note S room o)) (sym (none-stores (now S room).settings (now S room).held a)) A

  alone-then : (n : ℕ) (room : Room S) (cs : List (Call S)) → Alone room → Alone (room_then S n room cs)
  unfolding room_then
  alone-then n room [] A = A
  alone-then n room (c ∷ cs) A = alone-then n (room_after S n room c) cs (alone-after n room c A)

  pub samples-alone : SamplesAlone S
  samples-alone P =
      let A = alone-run (room_before S P) P.behind (length P.space) (alone-then (length P.memory) (new_room S (S.settings P.given)) P.calls (alone-new (S.settings P.given))) in
      (A.samples, A.settings)
