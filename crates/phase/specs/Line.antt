-- The sanitised phase of a frame (docs/SPEC.md, "Phase"; phase.rs, `CsiFrame::phases`): the angles unwrapped, and their
-- least-squares line taken off, with sixteen fractional bits. Assumes nothing.
use Rattle.std.specs.Prelude.{List, [], ◌∷◌, ℕ, suc, ◌+◌, ◌-◌, ◌*◌, ◌/◌, ◌^◌, ◌≤◌, ◌≡◌, ℤ, pos, nat_abs, ◌+ℤ◌, ◌-ℤ◌, ◌*ℤ◌, length}
use Rattle.std.specs.Int.Signed.{quot_z, shr_z}
use Rattle.csi.specs.Layout.{max_subcarriers}
use Rattle.num.specs.Sum.{sum_z}
use Rattle.num.specs.Wrap.{wrap16}

-- each angle's place on the walk by the shortest arc, from place `at` and angle `prev` on
unfoldable pub walk : (at prev : ℤ) → List ℤ → List ℤ
walk at prev [] = []
walk at prev (a ∷ rest) = (at +ℤ wrap16 (a -ℤ prev)) ∷ walk (at +ℤ wrap16 (a -ℤ prev)) a rest

-- the first angle, and the walk from there
unfoldable pub unwrapped : List ℤ → List ℤ
unwrapped angles = walk (pos 0) (pos 0) angles

-- Σ k·u[k], k counted from the first argument
unfoldable pub weighted : ℕ → List ℤ → ℤ
weighted k [] = pos 0
weighted k (u ∷ us) = pos k *ℤ u +ℤ weighted (suc k) us

-- Σ k and Σ k² for k below n, and n·Σk² - (Σk)²
unfoldable pub sum_k : ℕ → ℕ
sum_k n = n * (n - 1) / 2

unfoldable pub sum_kk : ℕ → ℕ
sum_kk n = (n - 1) * n * (2 * n - 1) / 6

unfoldable pub denominator : ℕ → ℕ
denominator n = n * sum_kk n - sum_k n * sum_k n

-- 1 with sixteen fractional bits
abbrev pub one : ℕ
one = 65536

-- the line's slope and intercept, with sixteen fractional bits
unfoldable pub slope_of : ℕ → (su sku : ℤ) → ℤ
slope_of n su sku = quot_z ((pos n *ℤ sku -ℤ pos (sum_k n) *ℤ su) *ℤ pos one) (pos (denominator n))

unfoldable pub intercept_of : ℕ → (su slope : ℤ) → ℤ
intercept_of n su slope = quot_z (su *ℤ pos one -ℤ slope *ℤ pos (sum_k n)) (pos n)

-- what is left of entry k, rounded down to a whole and put onto the circle
unfoldable pub residual_of : (slope icpt : ℤ) → ℕ → ℤ → ℤ
residual_of slope icpt k u = wrap16 (shr_z (u *ℤ pos one -ℤ slope *ℤ pos k -ℤ icpt) one)

-- of each entry, k counted from the third argument
unfoldable pub residuals : (slope icpt : ℤ) → ℕ → List ℤ → List ℤ
residuals slope icpt k [] = []
residuals slope icpt k (u ∷ us) = residual_of slope icpt k u ∷ residuals slope icpt (suc k) us

-- the phases of a frame's angles
unfoldable pub phases_of : List ℤ → List ℤ
phases_of angles =
    let us = unwrapped angles in
    let slope = slope_of (length angles) (sum_z us) (weighted 0 us) in
    residuals slope (intercept_of (length angles) (sum_z us) slope) 0 us

-- ---- sizes, which the steps of the code ask of each other

-- half a turn, the longest arc
abbrev pub arc : ℕ
arc = 32768

-- on the walk, and of the line
abbrev pub place_most : ℕ
place_most = arc * max_subcarriers

-- the slope for places of at most one unit each (two of them have the steepest line)
abbrev pub steepest : ℕ
steepest = 8 * max_subcarriers + 4

abbrev pub slope_most : ℕ
slope_most = steepest * (arc * one)

abbrev pub intercept_most : ℕ
intercept_most = 2 ^ 56

-- su and sku are the sums of n places on a walk
pub record SumsOf (us : List ℤ) (n : ℕ) (su sku : ℤ) : Type 0 where
  pub sum : su ≡ sum_z us
  pub wsum : sku ≡ weighted 0 us
  pub su-small : nat_abs su ≤ arc * n * n
  pub sku-small : nat_abs sku ≤ max_subcarriers * (arc * n * n)
