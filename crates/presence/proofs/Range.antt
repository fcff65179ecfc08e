-- The range of a column's wander: a deviation is at most half the range of the entries, so that every product fits 64 bits. Assumes nothing.
use mathlib.Core.Path.{◌≡◌, refl, sym, ap, ◌∙◌}
use Prim.Native.Nat.{ℕ, zero, suc, ◌+◌, ◌-◌, ◌*◌, ◌/◌, ◌≤◌, ◌<◌}
use native.Mathlib.Nat.{le_trans, le_of_eq, mul-le-mul, mul-le-mul_left, mul_assoc, mul_comm, mul_left_comm, add-mul, mul-mul-mul_comm, div-le_of_le-mul}
use native.Mathlib.Omega.{arith}
use Rattle.num.proofs.Root.{root_below}
use Rattle.num.proofs.Squares.{four_products}
use Rattle.presence.specs.Wander.{ColumnRange}
use Rattle.presence.specs.Wander.{against, deviation16}

module _ (w s q : ℕ) (range : ColumnRange w s q) where
  -- the square sum, w times: at most the sum times the largest sum
  scaled-squares : w * q ≤ 65535 * w * s
  scaled-squares = le_trans (mul-le-mul_left w range.squares) (le_of_eq (mul_left_comm w 65535 s ∙ sym (mul_assoc 65535 w s)))

  -- w * w times the variance: at most the square of half the largest sum
  pub half-range : 4 * (w * q - s * s) ≤ 65535 * w * (65535 * w)
  half-range =
      let d : ℕ = 65535 * w - s in
      let whole : s + d ≡ 65535 * w = omega (arith, range.most) in
      let split : (s + d) * s ≡ s * s + d * s = add-mul s d s in
      let above : w * q ≤ (s + d) * s = rw whole scaled-squares in
      let quarter : 4 * (s * d) ≤ (s + d) * (s + d) = four_products s d in
      let within : 4 * (w * q - s * s) ≤ (s + d) * (s + d) = omega (arith, above, split, quarter, mul_comm d s) in
      le_trans within (le_of_eq (ap (λ (n : ℕ). n * n) whole))

  pub sum-squared : s * s ≤ 65535 * w * (65535 * w)
  sum-squared = mul-le-mul range.most range.most

  pub squares-scaled : w * q ≤ 65535 * w * (65535 * w)
  squares-scaled = le_trans scaled-squares (mul-le-mul_left (65535 * w) range.most)

  pub deviation-le : deviation16 w s q ≤ 524280
  deviation-le =
      let n : ℕ = 65535 * w in
      let squared : 8 * n * (8 * n) ≡ 64 * (n * n) = mul-mul-mul_comm 8 n 8 n in
      let wider : 8 * n * (8 * n) ≤ (8 * n) * (8 * n + 1) = mul-le-mul_left (8 * n) (omega arith) in
      let below : 256 * (w * q - s * s) < (8 * n + 1) * (8 * n + 1) = omega (arith, half-range, squared, wider, add-mul (8 * n) 1 (8 * n + 1)) in
      div-le_of_le-mul w (omega (arith, root_below (256 * (w * q - s * s)) (8 * n + 1) below))

  pub mean-le : s / w ≤ 65535
  mean-le = div-le_of_le-mul w (omega (arith, range.most))

  -- at w = 8192, the square of the largest sum
  pub largest : w ≤ 8192 → 65535 * w * (65535 * w) ≤ 65535 * 8192 * (65535 * 8192)
  largest h = mul-le-mul {n₂ = 65535 * 8192} {m₂ = 65535 * 8192} (omega arith) (omega arith)

-- the wander of a column whose mean is not 0
pub against-mean : (mean d : ℕ) → (mean ≡ 0 → ⊥) → against mean d ≡ d * 1000 / (mean * 16)
unfolding against
against-mean zero d h = absurd (h refl)
against-mean (suc m) d h = refl
