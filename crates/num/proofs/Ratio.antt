-- Many numbers multiplied by c / t: the quotient is taken once, in s-ths and rounded up. A product with it has the right whole part
-- wherever a * t is below s, and wherever a is at most s the right one or one more. Assumes nothing.
use mathlib.Core.Path.{◌≡◌, ap, ◌∙◌}
use Prim.Native.Nat.{ℕ, suc, ◌+◌, ◌-◌, ◌*◌, ◌/◌, ◌≤◌, ◌<◌}
use native.Mathlib.Nat.{one-mul, mul-one, mul-le-mul_left, mul-le-mul_right, lt_of_mul-lt-mul_right, le_of_mul-le-mul_right, div-mul-le_self, lt-div-mul-add, div-eq_of_lt-le, mul-div-mul_left}
use native.Mathlib.Omega.{arith}

module _ (a c t s : ℕ) (some : 0 < t) where
  -- the quotient in s-ths, rounded up, and the whole part of a * c / t
  abbrev up : ℕ
  up = c * s / t + 1

  abbrev q : ℕ
  q = a * c / t

  over : a * (c * s) ≤ a * (up * t)
  over = mul-le-mul_left a (omega (arith, lt-div-mul-add {a = c * s} {b = t} some))

  under : a * (c * s / t * t) ≤ a * (c * s)
  under = mul-le-mul_left a (div-mul-le_self (c * s) t)

  low : q * s ≤ a * up
  low = le_of_mul-le-mul_right {k = t} (omega (arith, over, mul-le-mul_right s (div-mul-le_self (a * c) t))) some

  less : suc (a * c) * s ≤ (q + 1) * t * s
  less = mul-le-mul_right s (omega (arith, lt-div-mul-add {a = a * c} {b = t} some))

  pub by-ratio : a * t < s → a * up / s ≡ q
  by-ratio h =
      let high : a * up < (q + 1) * s = lt_of_mul-lt-mul_right t (omega (arith, under, less)) in
      div-eq_of_lt-le s low high

  -- the product is at most c * s + a where a is at most t
  pub ratio-le : a ≤ t → a * up ≤ c * s + a
  ratio-le h =
      let few : a * (c * s / t) ≤ t * (c * s / t) = mul-le-mul_right (c * s / t) h in
      omega (arith, div-mul-le_self (c * s) t, few)

-- the whole part of the product, and what a comparison says of it
module _ (a c t s : ℕ) (some : 0 < t) (few : a ≤ s) (unit : 0 < s) where
  abbrev near : ℕ
  near = a * up a c t s some / s

  least : q a c t s some ≤ near
  least =
      let next : a * up a c t s some < near * s + s = lt-div-mul-add {a = a * up a c t s some} {b = s} unit in
      let h : q a c t s some < near + 1 = lt_of_mul-lt-mul_right s (omega (arith, low a c t s some, next)) in
      omega arith

  pub near-most : near ≤ q a c t s some + 1
  near-most =
      let more : a * t ≤ s * t = mul-le-mul_right t few in
      let high : a * up a c t s some < (q a c t s some + 2) * s = lt_of_mul-lt-mul_right t (omega (arith, under a c t s some, less a c t s some, more)) in
      let h : near < q a c t s some + 2 = lt_of_mul-lt-mul_right s (omega (arith, high, div-mul-le_self (a * up a c t s some) s)) in
      omega arith

  pub near-over : a * c < near * t → near - 1 ≡ q a c t s some
  near-over h =
      let l : q a c t s some < near = lt_of_mul-lt-mul_right t (omega (arith, h, div-mul-le_self (a * c) t)) in
      omega (arith, near-most)

  pub near-right : near * t ≤ a * c → near ≡ q a c t s some
  near-right h =
      let l : near < q a c t s some + 1 = lt_of_mul-lt-mul_right t (omega (arith, h, lt-div-mul-add {a = a * c} {b = t} some)) in
      omega (arith, least)

-- the same for a division: a product with 1 / d in P-ths
pub by_product : (P d x : ℕ) → 0 < d → x * d < P → x * (P / d + 1) / P ≡ x / d
by_product P d x some h = rw (one-mul P, mul-one x) at (by-ratio x 1 d P some h)

-- of any x whose quotient is at most q, the product is below (q + 1) * P
module _ (P w q x : ℕ) (some : 1 ≤ w) (small : (q + 1) * w * w < P) (few : x / w ≤ q) where
  below : x * w < P
  below =
      let a : x < x / w * w + w = lt-div-mul-add {a = x} {b = w} some in
      let b : x / w * w ≤ q * w = mul-le-mul_right w few in
      let c : x * w ≤ (q + 1) * w * w = mul-le-mul_right w (omega arith) in
      omega arith

  pub recip-div : x * (P / w + 1) / P ≡ x / w
  recip-div = by_product P w x some below

  pub recip-below : x * (P / w + 1) < (q + 1) * P
  recip-below =
      let a = lt-div-mul-add {a = x * (P / w + 1)} {b = P} (omega (arith, below)) in
      let b : x * (P / w + 1) / P * P ≤ q * P = mul-le-mul_right P (omega (arith, recip-div)) in
      omega arith

pub part-times : (k : ℕ) → 1 ≤ k → (x s q : ℕ) → x * (k * s) / (k * q) ≡ x * s / q
part-times k some x s q = let e : x * (k * s) ≡ k * (x * s) = omega arith in ap (λ (a : ℕ). a / (k * q)) e ∙ mul-div-mul_left (x * s) q some
