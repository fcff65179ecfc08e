-- What the tests of the code say of the answers that `specs/` defines. Assumes nothing.
use mathlib.Core.Path.{◌≡◌, refl, ap, sym, ◌∙◌}
use mathlib.Core.Bool.{Bool, true, false, cond, not}
use mathlib.Core.List.{List}
use Prim.Native.Nat.{ℕ, ◌≤◌}
use borrow.Author.Tests.{le-ltb, ltb-false, not-false}
use lib.Dec.{ltb}
use lib.ListN.{length}
use Rattle.std.specs.Prelude.{Ok, Err}
use Rattle.refusal.specs.Refusal.{answered_number}
use Rattle.refusal.specs.declared.Refusal.{Refusal}
use Rattle.num.proofs.Cond.{zero-second}
use Rattle.csi.specs.Features.{features_of, features_answer}
use Rattle.csi.specs.Layout.{known, layout_of, need_of, frame_refusal, frame_check}

module _ (len tag : ℕ) where
  -- the number of what the test answers
  pub check-number : answered_number (frame_check len tag) ≡ frame_refusal len tag
  unfolding frame_check frame_refusal
  check-number = go (known tag) (ltb len (need_of (layout_of tag)))
    where
      go : (k short : Bool) → answered_number {A = Unit {0}} (cond (not k) (Err Refusal.Tag) (cond short (Err Refusal.Iq) (Ok tt))) ≡ cond (not k) 4 (cond short 5 0)
      go false b = refl
      go true false = refl
      go true true = refl

  pub served : frame_refusal len tag ≡ 0 → (known tag ≡ true) × (need_of (layout_of tag) ≤ len)
  unfolding frame_refusal
  served z =
      let short : Bool = ltb len (need_of (layout_of tag)) in
      let h = zero-second (not (known tag)) 3 (cond short 5 0) z in
      (not-false (known tag) h.0, ltb-false len (need_of (layout_of tag)) (zero-second short 4 0 h.1).0)

  -- where no number is due, the test passes, and only there
  pub passes : frame_refusal len tag ≡ 0 → frame_check len tag ≡ Ok tt
  unfolding frame_check
  passes z = let h = served z in rw (h.0, le-ltb len (need_of (layout_of tag)) h.1)

  pub passed : frame_check len tag ≡ Ok tt → frame_refusal len tag ≡ 0
  passed e = sym check-number ∙ ap answered_number e

-- the features' answer with its number
module _ (iq : List ℕ) (tag : ℕ) where
  pub features-pass : frame_refusal (length iq) tag ≡ 0 → features_answer iq tag ≡ Ok (features_of iq tag)
  unfolding features_answer
  features-pass z = rw (passes (length iq) tag z)
