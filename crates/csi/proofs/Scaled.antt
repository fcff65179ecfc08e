-- An amplitude's product with the rounded-up ratio fits 64 bits, and its whole part is that of the quotient. Assumes nothing.
use mathlib.Core.Path.{◌≡◌, ap, ◌∙◌}
use Prim.Native.Nat.{ℕ, ◌+◌, ◌*◌, ◌/◌, ◌^◌, min, ◌≤◌, ◌<◌}
use native.Mathlib.Omega.{arith}
use native.Mathlib.Nat.{mul-le-mul}
use Rattle.num.proofs.Ratio.{by-ratio, ratio-le}
use Rattle.csi.specs.Features.{scale}
use Rattle.csi.specs.Layout.{max_subcarriers}

-- the ratio of n amplitudes whose sum is t
abbrev pub factor : (n t : ℕ) → ℕ
factor n t = 1024 * n * 2 ^ 40 / t + 1

module _ (n t a : ℕ) (few : n ≤ max_subcarriers) (some : 1 ≤ t) (part : a ≤ t) where
  pub product-fits : a ≤ 65535 → a * factor n t < 2 ^ 64
  product-fits h = omega (arith, ratio-le a (1024 * n) t (2 ^ 40) some part)

  pub whole_part : a ≤ 65535 → t ≤ 65535 * n → min 65535 (a * factor n t / 2 ^ 40) ≡ scale n t a
  unfolding scale
  whole_part h l =
      let most : t ≤ 65535 * max_subcarriers = omega arith in
      let small : a * t < 2 ^ 40 = omega (arith, mul-le-mul h most) in
      let same : a * (1024 * n) ≡ a * 1024 * n = omega arith in
      ap (λ v. min 65535 v) (by-ratio a (1024 * n) t (2 ^ 40) some small ∙ ap (λ v. v / t) same)
