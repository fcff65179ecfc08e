-- Sizes of what the least-squares line is made of. What hangs on n alone is one test over all n. Assumes nothing.
use Prim.Native.Nat.{ℕ, ◌+◌, ◌-◌, ◌*◌, ◌/◌, ◌^◌, ◌≤◌}
use native.Mathlib.Omega.{arith}
use Rattle.csi.specs.Layout.{max_subcarriers}
use Rattle.num.proofs.Table.{below-le, between_le}
use Rattle.phase.specs.Line.{sum_k, sum_kk, denominator, steepest}

-- n·(n - 1), and with it Σk
pub pairs-le : (n : ℕ) → n ≤ max_subcarriers → n * (n - 1) ≤ max_subcarriers * (max_subcarriers - 1)
pairs-le n h = below-le (λ n. n * (n - 1)) (λ n. max_subcarriers * (max_subcarriers - 1)) (max_subcarriers + 1) tt n (omega arith)

pub sum_k-le : (n : ℕ) → n ≤ max_subcarriers → sum_k n ≤ max_subcarriers * (max_subcarriers - 1) / 2
unfolding sum_k
sum_k-le n h = omega (arith, pairs-le n h)

-- both terms of the denominator: the one that is taken off is not the larger
pub terms-le : (n : ℕ) → n ≤ max_subcarriers → (n * sum_kk n ≤ 2 ^ 40) × (sum_k n * sum_k n ≤ n * sum_kk n)
unfolding sum_k sum_kk
terms-le n h = (
  below-le (λ n. n * sum_kk n) (λ n. 2 ^ 40) (max_subcarriers + 1) tt n (omega arith),
  below-le (λ n. sum_k n * sum_k n) (λ n. n * sum_kk n) (max_subcarriers + 1) tt n (omega arith),
)

pub denominator-pos : (n : ℕ) → 2 ≤ n → n ≤ max_subcarriers → 1 ≤ denominator n
unfolding denominator sum_k sum_kk
denominator-pos n l h = between_le (λ n. 1) denominator 2 (max_subcarriers - 1) tt n l (omega arith)

pub denominator-le : (n : ℕ) → n ≤ max_subcarriers → denominator n ≤ 2 ^ 40
unfolding denominator
denominator-le n h = omega (arith, (terms-le n h).0)

-- the slope's numerator, for places of one unit each, against its denominator
pub steep : (n : ℕ) → 2 ≤ n → n ≤ max_subcarriers → max_subcarriers * (n * n * n) + sum_k n * (n * n) ≤ steepest * denominator n
unfolding denominator sum_k sum_kk
steep n l h =
    between_le (λ n. max_subcarriers * (n * n * n) + sum_k n * (n * n)) (λ n. steepest * denominator n) 2 (max_subcarriers - 1) tt n l (omega arith)
