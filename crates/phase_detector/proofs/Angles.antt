-- The sums of rows of zeros. Assumes nothing.
use mathlib.Core.Path.{◌≡◌, refl, ap, ◌∙◌}
use Prim.Native.Nat.{ℕ, zero, suc, ◌+◌, ◌*◌}
use native.Mathlib.Omega.{arith}
use lib.IntN.{ℤ, pos, ◌+ℤ◌}
use lib.ListN.{replicate}
use Rattle.window.specs.Sums.{total_by}
use Rattle.vectors.specs.Tables.{sin_quarter}
use Rattle.vectors.specs.Vector.{cos_at, sin_at}

-- w angles of 0
pub zero-cosines : (w : ℕ) → pos (w * 16384) ≡ total_by ◌+ℤ◌ (pos 0) cos_at (replicate w 0)
unfolding total_by cos_at sin_quarter
zero-cosines zero = refl
zero-cosines (suc w) = let e : suc w * 16384 ≡ 16384 + w * 16384 = omega arith in ap pos e ∙ ap (λ (z : ℤ). pos 16384 +ℤ z) (zero-cosines w)

pub zero-sines : (w : ℕ) → pos 0 ≡ total_by ◌+ℤ◌ (pos 0) sin_at (replicate w 0)
unfolding total_by sin_at sin_quarter
zero-sines zero = refl
zero-sines (suc w) = ap (λ (z : ℤ). pos 0 +ℤ z) (zero-sines w)
