-- Estimates of a square root: a first one, how a division makes a finer one of it, and how one of a multiple is one of the number.
-- Assumes nothing.
use mathlib.Core.Path.{◌≡◌, ap}
use mathlib.Core.Logic.{by_cases}
use Prim.Native.Nat.{ℕ, zero, suc, ◌+◌, ◌-◌, ◌*◌, ◌/◌, ◌≤◌, ◌<◌}
use native.Mathlib.Nat.{lt_of_lt_of_le, lt_of_le_of_lt, lt_of_not-le, mul-pos, mul-le-mul, mul-le-mul_left, mul-le-mul_right, mul-lt-mul_of_pos_right, lt_of_mul-lt-mul_right, div-mul-le_self, lt-div-mul-add}
use native.Mathlib.Decide.{dec_le}
use native.Mathlib.Omega.{arith}
use Rattle.num.specs.Root.{Near}
use Rattle.num.proofs.Squares.{square-lt, four_products}

-- an estimate is as large as every whole root below, and no larger than one above
pub near-least : (n a s : ℕ) → Near n a → s * s ≤ n → s ≤ a
near-least n a s e h = omega (arith, square-lt s (a + 1) (lt_of_le_of_lt h e.under))

pub near-most : (n a s : ℕ) → Near n a → n ≤ s * s → a ≤ s
near-most n a s e h = omega (arith, square-lt (a - 1) s (lt_of_lt_of_le e.over h))

-- the bound from below at a number t in the place of a - 1
over_by : (n a t : ℕ) → a ≤ t + 1 → t * t < n → (a - 1) * (a - 1) < n
over_by n a t h l = lt_of_le_of_lt (mul-le-mul {n₂ = t} {m₂ = t} (omega arith) (omega arith)) l

pub over-of : (n a t : ℕ) → t + 1 ≤ a → Near n a → t * t < n
over-of n a t h e = lt_of_le_of_lt (mul-le-mul {n₂ = a - 1} {m₂ = a - 1} (omega arith) (omega arith)) e.over

-- the line: 8 at 44, and one more for each 24. From 64 to 255 it is an estimate
pub near-line : (m : ℕ) → 64 ≤ m → m < 256 → Near m ((m + 148) / 24)
near-line m low high =
    let a : ℕ = (m + 148) / 24 in
    let i : ℕ = a - 9 in
    let flat : i * i ≤ 7 * i = mul-le-mul_right i (omega arith) in
    record {
      over = by_cases (dec_le 9 a) (λ h. over_by m a (8 + i) (omega arith) (omega arith)) (λ g. over_by m a 7 (omega arith) (omega arith));
      under = omega (arith, four_products a 11);
    }

-- The chord of the squares from u to u + 2 * k lies above them in between: where it is at most n at u + x, and n is between the two squares,
-- the square of u + x is below n.
chord : (u k x n : ℕ) → u * u < n → n < (u + 2 * k) * (u + 2 * k) → u * u + 2 * (u * x) + 2 * (k * x) ≤ n → (u + x) * (u + x) < n
chord u k zero n low high mid = omega arith
chord u k (suc x) n low high mid =
    by_cases
    (dec_le (2 * k) (suc x))
    (λ h. omega (arith, mul-le-mul_left u h, mul-le-mul_left k h))
    (λ g. omega (arith, mul-lt-mul_of_pos_right {k = suc x} (lt_of_not-le g) (omega arith)))

-- A finer estimate: where a is one for n without its lower digits, and h is at most a, one step of Newton's from 2 * (h * a) gives one for n.
-- The step is never below the root, by `four_products`, and less than 1 above it, by the chord.
pub near-finer : (h a n : ℕ) → 0 < h → h ≤ a → Near (n / (4 * (h * h))) a → Near n (h * a + n / (4 * h) / a)
near-finer h zero n pos le e = absurd (omega arith)
near-finer h (suc b) n pos le e =
    let a : ℕ = suc b in
    let q : ℕ = n / (4 * h) / a in
    let m : ℕ = n / (4 * (h * h)) in
    let p : ℕ = 4 * (h * h) in
    let u : ℕ = 2 * (h * b) in
    let x : ℕ = h * a + q - (u + 1) in
    let hh : 0 < h * h = mul-pos pos pos in
    let low : u * u < n = omega (arith, mul-le-mul_right p (over-of m a b (omega arith) e), div-mul-le_self n p) in
    let high : n < (u + 2 * (2 * h)) * (u + 2 * (2 * h)) =
    omega (arith, mul-le-mul_right p e.under, lt-div-mul-add {a = n} {b = p} (omega arith))
    in
    let product : 4 * (h * a * q) ≤ n =
    omega (arith, mul-le-mul_right (4 * h) (div-mul-le_self (n / (4 * h)) a), div-mul-le_self n (4 * h))
    in
    let more : n < 4 * (h * a * (q + 1)) =
    omega (arith, mul-le-mul_right (4 * h) (lt-div-mul-add {a = n / (4 * h)} {b = a} (omega arith)), lt-div-mul-add {a = n} {b = 4 * h} (omega arith))
    in
    record {
      over =
          by_cases
          (dec_le (h * a + q) (u + 1))
          (λ g. over_by n (h * a + q) u g low)
          (λ g.
          let whole : q + h ≡ h * b + x + 1 = omega arith in
          over_by n (h * a + q) (u + x) (omega arith) (chord u (2 * h) x n low high (omega (arith, ap (λ (z : ℕ). h * a * z) whole, mul-le-mul_left h le))));
      under = omega (arith, more, four_products (h * a) (q + 1));
    }

-- an estimate for v times a square, divided by the square's root
fewer : (r s d : ℕ) → 0 < s → r * s ≤ d → (r - 1) * s ≤ d - 1
fewer zero s d pos h = omega arith
fewer (suc r) s d pos h = let less : suc r - 1 ≡ r = omega arith in rw less (omega arith)

pub near-scaled : (s d v : ℕ) → 0 < s → Near (v * (s * s)) d → Near v (d / s)
near-scaled s d v pos e =
    let r : ℕ = d / s in
    let down : (r - 1) * s ≤ d - 1 = fewer r s d pos (div-mul-le_self d s) in
    let up : d + 1 ≤ (r + 1) * s = omega (arith, lt-div-mul-add {a = d} pos) in
    record {
      over = lt_of_mul-lt-mul_right (s * s) (omega (arith, e.over, mul-le-mul down down));
      under = lt_of_mul-lt-mul_right (s * s) (omega (arith, e.under, mul-le-mul up up));
    }
