-- A number shifted up by an even number of places, so that at most one of its leading bits is zero, and what an estimate of its root
-- says of the root of the number. Assumes nothing.
use mathlib.Core.Path.{◌≡◌, ap, ◌∙◌}
use Prim.Native.Nat.{ℕ, suc, ◌+◌, ◌*◌, ◌/◌, ◌%◌, ◌^◌, ◌≤◌, ◌<◌}
use native.Mathlib.Nat.{lt_of_lt_of_le, mul-le-mul_right, two-mul, mod-eq_of_lt}
use native.Mathlib.Omega.{arith}
use lib.Count.{count_leading_zeros, leading_top}
use lib.Pow.{pow_pos, pow_mono, pow-add, shl_lt}
use Rattle.num.specs.Root.{Near}
use Rattle.num.proofs.Estimate.{near-scaled}

-- half of the leading zeros of a word of k bits, and the word shifted up by twice as many places
abbrev pub places : ℕ → ℕ → ℕ
places k v = count_leading_zeros k v / 2

abbrev pub scaled : ℕ → ℕ → ℕ
scaled k v = v * 2 ^ (2 * places k v) % 2 ^ k

module _ (k v : ℕ) (pos : 0 < v) (fits : v < 2 ^ k) where
  -- no bit is lost
  whole : scaled k v ≡ v * 2 ^ (2 * places k v)
  whole =
      let c : ℕ = places k v in
      let top = leading_top k v pos fits in
      mod-eq_of_lt (lt_of_lt_of_le (shl_lt (suc top.0) (2 * c) top.3) (pow_mono (omega (arith, top.1))))

  pub scaled-least : 2 ^ k ≤ 4 * scaled k v
  scaled-least =
      let c : ℕ = places k v in
      let top = leading_top k v pos fits in
      let j : ℕ = top.0 in
      let wide : 2 ^ k ≤ 2 ^ (j + 2 * c + 2) = pow_mono (omega (arith, top.1)) in
      omega (arith, whole, wide, pow-add 2 (j + 2 * c) 2, pow-add 2 j (2 * c), mul-le-mul_right (2 ^ (2 * c)) top.2)

  pub near-unscaled : (d : ℕ) → Near (scaled k v) d → Near v (d / 2 ^ places k v)
  near-unscaled d e =
      let c : ℕ = places k v in
      let square : 2 ^ (2 * c) ≡ 2 ^ c * 2 ^ c = ap (λ (z : ℕ). 2 ^ z) (two-mul c) ∙ pow-add 2 c c in
      near-scaled (2 ^ c) d v (pow_pos c) (rw (whole ∙ ap (λ (z : ℕ). v * z) square) at e)
