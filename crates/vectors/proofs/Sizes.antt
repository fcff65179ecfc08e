-- The size of a unit vector's components, and of what a mean misses. Assumes nothing.
use Prim.Native.Nat.{ℕ, ◌+◌, ◌-◌, ◌*◌, ◌/◌, ◌≤◌, ◌<◌, min}
use native.Mathlib.Nat.{mul-le-mul_right, div-le_of_le-mul}
use native.Mathlib.Omega.{arith}
use lib.Dec.{eqb}
use lib.IntN.{ℤ, pos, neg_ℤ, nat_abs}
use lib.ListN.{get_or}
use Rattle.num.proofs.Abs.{abs_neg}
use Rattle.num.proofs.Cond.{cond-holds}
use Rattle.num.specs.Root.{root}
use Rattle.vectors.specs.Tables.{sin_quarter}
use Rattle.vectors.proofs.Rules.{sin-le}
use Rattle.vectors.specs.Vector.{quarter, step, by_quarter, cos_at, sin_at, missing_ppm, column_ppm, mean_square}

quarter-le : (q : ℕ) (a b c d : ℤ) → nat_abs a ≤ 16384 → nat_abs b ≤ 16384 → nat_abs c ≤ 16384 → nat_abs d ≤ 16384 → nat_abs (by_quarter q a b c d) ≤ 16384
quarter-le q a b c d ha hb hc hd =
    let Small : ℤ → Type 0 = λ z. nat_abs z ≤ 16384 in
    cond-holds Small (eqb q 0) a _ (λ e. ha) (λ e. cond-holds Small (eqb q 1) b _ (λ e. hb) (λ e. cond-holds Small (eqb q 2) c d (λ e. hc) (λ e. hd)))

step-lt : (b : ℕ) → step b < 257
step-lt b = omega arith

module _ (b : ℕ) where
  s-le : nat_abs (pos (get_or sin_quarter (step b) 0)) ≤ 16384
  s-le = sin-le (step b) (step-lt b)

  c-le : nat_abs (pos (get_or sin_quarter (256 - step b) 0)) ≤ 16384
  c-le = sin-le (256 - step b) (omega arith)

pub cos-le : (b : ℕ) → nat_abs (cos_at b) ≤ 16384
unfolding cos_at
cos-le b =
    let s = pos (get_or sin_quarter (step b) 0) in let c = pos (get_or sin_quarter (256 - step b) 0) in
    quarter-le (quarter b) c (neg_ℤ s) (neg_ℤ c) s (c-le b) (omega (arith, abs_neg s, s-le b)) (omega (arith, abs_neg c, c-le b)) (s-le b)

pub sine-le : (b : ℕ) → nat_abs (sin_at b) ≤ 16384
unfolding sin_at
sine-le b =
    let s = pos (get_or sin_quarter (step b) 0) in let c = pos (get_or sin_quarter (256 - step b) 0) in
    quarter-le (quarter b) s c (neg_ℤ s) (neg_ℤ c) (s-le b) (c-le b) (omega (arith, abs_neg s, s-le b)) (omega (arith, abs_neg c, c-le b))

-- no more than the whole is missing
pub ppm-le : (w : ℕ) (c s : ℤ) → column_ppm w c s ≤ 1000000
unfolding column_ppm missing_ppm
ppm-le w c s =
    let m : ℕ = 16384 - min 16384 ((root (4 * mean_square c s w) + 1) / 2) in
    let below : m ≤ 16384 = omega arith in
    div-le_of_le-mul 256 (mul-le-mul_right 15625 below)
