-- Sizes of the brackets of an entry's series. Assumes nothing.
use Prim.Native.Nat.{ℕ, ◌+◌, ◌-◌, ◌*◌, ◌/◌, ◌≤◌}
use native.Mathlib.Nat.{mul-le-mul_left, mul-le-mul_right, div-le_of_le-mul}
use native.Mathlib.Omega.{arith}
use Rattle.tables.specs.Tables.{radian, fractions, deeper}
use Rattle.tables.specs.Sizes.{AtMostHalf}

-- a bracket of the arctangent's series
pub bracket_le : (s q k x : ℕ) → AtMostHalf s q × (k ≤ fractions) × (x ≤ 2 * radian) → deeper s q k x ≤ 2 * radian
unfolding deeper
bracket_le s q k x (half, deep, small) =
    let a : x * (2 * k * s) ≤ 2 * radian * (2 * k * s) = mul-le-mul_right (2 * k * s) small in
    let b : 2 * k * (2 * s) ≤ 2 * k * q = mul-le-mul_left (2 * k) half.0 in
    let e : x * (2 * k * s) / ((2 * k + 1) * q) ≤ radian = div-le_of_le-mul ((2 * k + 1) * q) (omega arith) in
    omega arith
