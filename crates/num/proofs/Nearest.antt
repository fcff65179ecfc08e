-- Laws of `nearest`. Assumes nothing.
use mathlib.Core.Path.{◌≡◌, refl, sym}
use Prim.Native.Nat.{ℕ, suc, ◌+◌, ◌*◌, ◌/◌, ◌≤◌, ◌<◌}
use native.Mathlib.Omega.{arith}
use native.Mathlib.Nat.{div-lt_iff_lt-mul, le-div_iff_mul-le, mul-le-mul_left, mul-pos}
use Rattle.num.specs.Nearest.{nearest, Nearest, RoundsToTheNearest}

-- a half, by computation
pub half_up : nearest 1 2 ≡ 1
half_up = refl

pub rounds-to-the-nearest : RoundsToTheNearest
rounds-to-the-nearest a b some = (close, only)
  where
    close : Nearest a b (nearest a b)
    close =
        let low : nearest a b * b ≤ a + b / 2 = (le-div_iff_mul-le some).0 (omega arith) in
        let high : a + b / 2 < (nearest a b + 1) * b = (div-lt_iff_lt-mul some).0 (omega arith) in
        (omega (arith, low), omega (arith, high))

    only : (r : ℕ) → Nearest a b r → r ≡ nearest a b
    only r near =
        let low : r ≤ nearest a b = (le-div_iff_mul-le some).1 (omega (arith, near.0)) in
        let high : nearest a b < r + 1 = (div-lt_iff_lt-mul some).1 (omega (arith, near.1)) in
        omega arith

-- a quotient of at most B is so when rounded
pub nearest-le : (B n s : ℕ) → 1 ≤ n → s ≤ B * n → nearest s n ≤ B
nearest-le B n s some h = let k : nearest s n < B + 1 = (div-lt_iff_lt-mul {k = n} some).1 (omega arith) in omega arith

-- both a and b times k
pub nearest-times : (k a b : ℕ) → 1 ≤ k → 1 ≤ b → nearest (k * a) (k * b) ≡ nearest a b
nearest-times k a b some more =
    let r : ℕ = nearest a b in
    let near = (rounds-to-the-nearest a b more).0 in
    let low : k * (2 * (r * b)) ≤ k * (2 * a + b) = mul-le-mul_left k near.0 in
    let high : k * suc (2 * a) ≤ k * (2 * (r * b) + b) = mul-le-mul_left k near.1 in
    sym ((rounds-to-the-nearest (k * a) (k * b) (mul-pos some more)).1 r (omega arith, omega arith))
