-- The sums of zeros. Assumes nothing.
use mathlib.Core.Path.{◌≡◌, refl}
use Prim.Native.Nat.{ℕ, zero, suc, ◌+◌}
use native.Mathlib.Omega.{arith}
use lib.ListN.{replicate}
use Rattle.window.specs.Sums.{total_by}

-- amplitudes of 0 add nothing
pub zero-amplitudes : (f : ℕ → ℕ) → f 0 ≡ 0 → (w : ℕ) → 0 ≡ total_by ◌+◌ 0 f (replicate w 0)
unfolding total_by
zero-amplitudes f e zero = refl
zero-amplitudes f e (suc w) = omega (arith, e, zero-amplitudes f e w)
