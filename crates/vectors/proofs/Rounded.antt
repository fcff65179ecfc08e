-- The rounded root: r is it where r * r - r < sq ≤ r * r + r; and near a whole vector, one step of Newton's gives it. Assumes nothing.
use mathlib.Core.Path.{◌≡◌, ap}
use Prim.Native.Nat.{ℕ, zero, suc, ◌+◌, ◌-◌, ◌*◌, ◌/◌, ◌≤◌, ◌<◌}
use native.Mathlib.Nat.{mul-le-mul}
use native.Mathlib.Omega.{arith}
use Rattle.num.specs.Root.{root}
use Rattle.num.proofs.Root.{root_below, root-largest}
use Rattle.vectors.specs.Vector.{rounded_root}

pub rounded : (sq r : ℕ) → r * r < sq + r → sq ≤ r * r + r → r ≡ rounded_root sq
rounded sq zero low high = absurd (omega arith)
rounded sq (suc n) low high =
    let r : ℕ = suc n in
    let below : root (4 * sq) < 2 * r + 1 = root_below (4 * sq) (2 * r + 1) (omega arith) in
    let above : 2 * n + 1 ≤ root (4 * sq) = (root-largest (4 * sq)).most (2 * n + 1) (omega arith) in
    omega arith

-- from a number that is at most 1 below it
pub from_above : (sq e : ℕ) → e * e < sq + e → e * e + e < sq → sq ≤ e * e + 3 * e + 2 → e + 1 ≡ rounded_root sq
from_above sq e low more high = rounded sq (e + 1) (omega arith) (omega arith)

-- e = 16,384 - k, where sq / 32,768 is 8,192 - k and k is at most 127: with b = sq % 32,768, its square is sq - b + k * k
pub near_unit : (sq a : ℕ) → a ≡ sq / 32768 → 8065 ≤ a → a ≤ 8192 → (8192 + a ≤ 16384) × ((8192 + a) * (8192 + a) < sq + (8192 + a)) × (sq ≤ (8192 + a) * (8192 + a) + 3 * (8192 + a) + 2)
near_unit sq a ea low high =
    let k : ℕ = 8192 - a in
    let e : ℕ = 8192 + a in
    let whole : e + k ≡ 16384 = omega arith in
    let few : k * k ≤ 127 * 127 = mul-le-mul {n₂ = 127} {m₂ = 127} (omega arith) (omega arith) in
    let square : (e + k) * (e + k) ≡ 268435456 = ap (λ (n : ℕ). n * n) whole in
    let cross : (e + k) * k ≡ 16384 * k = ap (λ (n : ℕ). n * k) whole in
    (omega arith, omega arith, omega arith)
