-- `Energy::rho` meets its contract: the sign goes through the products, the division and the limits. Assumes nothing.
use mathlib.Core.Path.{◌≡◌, sym, ap, ◌∙◌}
use mathlib.Core.Bool.{Bool}
use Prim.Native.Nat.{ℕ, ◌-◌, ◌*◌, ◌/◌, min}
use native.Mathlib.Nat.{mul_assoc}
use borrow.Author.Rules.{sfits_of}
use lib.IntN.{ℤ, pos, negsuc, nat_abs, ◌*ℤ◌}
use lib.Signed.{lt_z, quot_z}
use mir.Syntax.{w32, w64}
use mir.Facts.{to_z-of_z}
use Rattle.num.specs.Clamp.{clamp_z}
use Rattle.num.specs.Sign.{with_sign}
use Rattle.num.proofs.Sign.{sign-self, sign-mul, sign-quot, sign-clamp}
use Rattle.vitals.specs.Correlation.{rho_of}
use Rattle.vitals.proofs.steps.energy.Energy.rho.Goals as goal

signed : (b : Bool) (a e n lag : ℕ) → rho_of (with_sign b a) e n lag ≡ with_sign b (min 2000 (a * (1000 * n) / ((n - lag) * e)))
signed b a e n lag =
    let d = (n - lag) * e in
    ap (λ (z : ℤ). clamp_z (negsuc 1999) (pos 2000) (quot_z z (pos d))) (ap (λ (z : ℤ). z *ℤ pos n) (sign-mul b a 1000) ∙ sign-mul b (a * 1000) n)
    ∙ ap (clamp_z (negsuc 1999) (pos 2000)) (sign-quot b (a * 1000 * n) d)
    ∙ sign-clamp 1999 b (a * 1000 * n / d)
    ∙ ap (λ (x : ℕ). with_sign b (min 2000 (x / d))) (mul_assoc a 1000 n)

rho-by : (r : ℤ) (e n lag : ℕ) → with_sign (lt_z r (pos 0)) (min 2000 (nat_abs r * (1000 * n) / ((n - lag) * e))) ≡ rho_of r e n lag
rho-by r e n lag = sym (signed (lt_z r (pos 0)) (nat_abs r) e n lag) ∙ ap (λ (z : ℤ). rho_of z e n lag) (sign-self r)

pub returns : goal.returns
returns c =
    to_z-of_z {w = w32} (sfits_of {w = w32} c.with_sign.type_inv) ∙ c.with_sign.ensures
    ∙ rw (c.permille.ensures, c.unsigned_abs.ensures.value, to_z-of_z {w = w64} {z = c.args.r} c.ranges.r) (rho-by c.args.r c.args.self.sum c.args.self.n c.args.lag)
