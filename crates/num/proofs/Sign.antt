-- The sign of a number goes through products and quotients by a number of ℕ, and through limits of one size. Assumes nothing.
use mathlib.Core.Path.{◌≡◌, refl, sym, ap, ◌∙◌}
use mathlib.Core.Bool.{Bool, true, false, cond}
use Prim.Native.Nat.{ℕ, zero, suc, ◌*◌, ◌/◌, min}
use native.Mathlib.Nat.{zero-mul, zero-div}
use native.Mathlib.Omega.{arith}
use borrow.Author.Tests.{ltb-true, ltb-false}
use lib.Dec.{ltb}
use lib.IntN.{ℤ, pos, negsuc, nat_abs, ◌*ℤ◌}
use lib.Signed.{lt_z, quot_z}
use Rattle.num.specs.Clamp.{clamp_z}
use Rattle.num.specs.Sign.{with_sign}

not-below : (n : ℕ) (b : Bool) → ltb n 0 ≡ b → with_sign b n ≡ pos n
not-below n true h = absurd (omega (arith, ltb-true n 0 h))
not-below n false h = refl

-- a number is its size with its sign
pub sign-self : (z : ℤ) → with_sign (lt_z z (pos 0)) (nat_abs z) ≡ z
sign-self (pos n) = not-below n (ltb n 0) refl
sign-self (negsuc n) = refl

pub sign-mul : (b : Bool) (m k : ℕ) → with_sign b m *ℤ pos k ≡ with_sign b (m * k)
sign-mul true zero k = let h : 0 * k ≡ 0 = zero-mul k in rw h
sign-mul true (suc m) k = refl
sign-mul false m k = refl

pub sign-quot : (b : Bool) (m d : ℕ) → quot_z (with_sign b m) (pos d) ≡ with_sign b (m / d)
sign-quot true zero d = let h : 0 / d ≡ 0 = zero-div d in rw h
sign-quot true (suc m) d = refl
sign-quot false m d = refl

module _ (c : ℕ) where
  low : (m : ℕ) (b : Bool) → ltb c m ≡ b → cond b (negsuc c) (negsuc m) ≡ with_sign true (min (suc c) (suc m))
  low m true e = let h : min (suc c) (suc m) ≡ suc c = omega (arith, ltb-true c m e) in sym (ap (with_sign true) h)
  low m false e = let h : min (suc c) (suc m) ≡ suc m = omega (arith, ltb-false c m e) in sym (ap (with_sign true) h)

  high : (m : ℕ) (b : Bool) → ltb (suc c) m ≡ b → cond b (pos (suc c)) (pos m) ≡ pos (min (suc c) m)
  high m true e = let h : min (suc c) m ≡ suc c = omega (arith, ltb-true (suc c) m e) in sym (ap pos h)
  high m false e = let h : min (suc c) m ≡ m = omega (arith, ltb-false (suc c) m e) in sym (ap pos h)

  pub sign-clamp : (b : Bool) (m : ℕ) → clamp_z (negsuc c) (pos (suc c)) (with_sign b m) ≡ with_sign b (min (suc c) m)
  sign-clamp true zero = let h : min (suc c) 0 ≡ 0 = omega arith in high 0 (ltb (suc c) 0) refl ∙ ap pos h ∙ sym (ap (with_sign true) h)
  sign-clamp true (suc m) = low m (ltb c m) refl
  sign-clamp false m = high m (ltb (suc c) m) refl
