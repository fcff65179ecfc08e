-- What the tests of the code say of the answers that `specs/Phases.antt` defines. Assumes nothing.
use mathlib.Core.Path.{◌≡◌, refl, ap, subst, ◌∙◌}
use mathlib.Core.Bool.{Bool, true, false, cond, ◌&&◌}
use mathlib.Core.List.{List, ◌++◌, map}
use mathlib.Core.Logic.{by_cases}
use Prim.Native.Nat.{ℕ, ◌-◌, ◌≤◌}
use native.Mathlib.Decide.{dec_lt}
use native.Mathlib.Omega.{arith}
use lib.Dec.{leb}
use borrow.Author.Tests.{le-leb, lt-leb}
use lib.IntN.{ℤ, pos}
use lib.ListN.{length, replicate, length-map}
use lib.Seq.{length-take-le}
use Rattle.std.specs.Prelude.{Ok, Err}
use Rattle.refusal.specs.Refusal.{answered_number}
use Rattle.refusal.specs.declared.Refusal.{Refusal}
use Rattle.csi.specs.Layout.{max_subcarriers, layout_of, entries_of, frame_refusal, frame_check}
use Rattle.csi.specs.declared.Layout.{Layout}
use Rattle.csi.proofs.Answers.{passes}
use Rattle.phase.specs.Angle.{entry_angle}
use Rattle.phase.specs.Line.{phases_of}
use Rattle.phase.specs.Phases.{sanitised, frame_phases, phases_answer, angles_refusal, used, angles_answer}
use Rattle.phase.specs.declared.Angles.{Angles}
use Rattle.phase.specs.declared.Phases.{Phases}

-- the phases of angles as they stand in an array
abbrev pub in_array : (phase : List ℤ) (n : ℕ) → Phases
in_array phase n = record { phase = phase; count = n }

pub its-phases : (angles phase : List ℤ) → phase ≡ phases_of angles ++ replicate (max_subcarriers - length angles) (pos 0) → in_array phase (length angles) ≡ sanitised angles
unfolding sanitised
its-phases angles phase p = rw p

-- ---- a sample

module _ (iq : List ℕ) (tag : ℕ) where
  pub phases-pass : frame_refusal (length iq) tag ≡ 0 → phases_answer iq tag ≡ Ok (frame_phases iq tag)
  unfolding phases_answer
  phases-pass z = rw (passes (length iq) tag z)

  pub phases-stop : (e : Refusal) → frame_check (length iq) tag ≡ Err e → phases_answer iq tag ≡ Err e
  unfolding phases_answer
  phases-stop e h = rw h

-- the angles of the layout's entries
module _ (iq : List ℕ) (tag : ℕ) (l : Layout) (el : l ≡ layout_of tag) (n : ℕ) (en : n ≡ length (entries_of l)) where
  pub frame-phases : (angles phase : List ℤ) → angles ≡ map (entry_angle iq) (entries_of l)
      → phase ≡ phases_of angles ++ replicate (max_subcarriers - length angles) (pos 0) → in_array phase n ≡ frame_phases iq tag
  unfolding frame_phases
  frame-phases angles phase ea ep =
      let long : n ≡ length angles = en ∙ rw ea (omega (arith, length-map (entries_of l) (entry_angle iq))) in
      rw (long, ← el, ← ea) (its-phases angles phase ep)

-- ---- hand-made angles

module _ (a : Angles) where
  pub outside : (2 ≤ a.count → a.count ≤ max_subcarriers → ⊥) → Err Refusal.Count ≡ angles_answer a
  unfolding angles_answer
  outside h =
      by_cases (dec_lt a.count 2)
      (λ l. rw (lt-leb 2 a.count l))
      (λ l. let two : 2 ≤ a.count = omega arith in
      by_cases (dec_lt max_subcarriers a.count)
      (λ m. rw (le-leb 2 a.count two, lt-leb a.count max_subcarriers m))
      (λ m. absurd (h two (omega arith))))

  pub enough : (phase : List ℤ) → 2 ≤ a.count → a.count ≤ max_subcarriers → length a.angle ≡ max_subcarriers
      → phase ≡ phases_of (used a) ++ replicate (max_subcarriers - length (used a)) (pos 0) → Ok (in_array phase a.count) ≡ angles_answer a
  unfolding angles_answer
  enough phase l h long e =
      let n : length (used a) ≡ a.count = length-take-le a.count a.angle (omega arith) in
      rw (le-leb 2 a.count l, le-leb a.count max_subcarriers h)
      (ap Ok (subst (λ (m : ℕ). in_array phase m ≡ sanitised (used a)) n (its-phases (used a) phase e)))

  -- the number of what is answered
  pub angles-number : answered_number (angles_answer a) ≡ angles_refusal a.count
  unfolding angles_answer angles_refusal
  angles-number = go (leb 2 a.count && leb a.count max_subcarriers)
    where
      go : (b : Bool) → answered_number (cond b (Ok (sanitised (used a))) (Err Refusal.Count)) ≡ cond b 0 7
      go true = refl
      go false = refl
