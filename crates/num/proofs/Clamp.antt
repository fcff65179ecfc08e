-- A value kept between a negative limit and one that is not: what the two tests decide, and its size. Assumes nothing.
use mathlib.Core.Path.{◌≡◌, refl}
use mathlib.Core.Bool.{Bool, true, false, cond}
use Prim.Native.Nat.{ℕ, suc, ◌≤◌, max}
use native.Mathlib.Omega.{arith}
use borrow.Author.Tests.{ltb-false}
use lib.IntN.{ℤ, pos, negsuc, nat_abs}
use lib.Signed.{lt_z}
use Rattle.num.specs.Clamp.{clamp_z}

module _ (a b : ℕ) where
  within : (z : ℤ) (l h : Bool) → lt_z z (negsuc a) ≡ l → lt_z (pos b) z ≡ h → nat_abs (cond l (negsuc a) (cond h (pos b) z)) ≤ max (suc a) b
  within z true h p q = omega arith
  within z false true p q = omega arith
  within (pos n) false false p q = omega (arith, ltb-false b n q)
  within (negsuc n) false false p q = omega (arith, ltb-false a n p)

  -- no larger than the limits
  pub clamp-size : (z : ℤ) → nat_abs (clamp_z (negsuc a) (pos b) z) ≤ max (suc a) b
  clamp-size z = within z (lt_z z (negsuc a)) (lt_z (pos b) z) refl refl
