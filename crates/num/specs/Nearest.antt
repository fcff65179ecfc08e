-- A quotient rounded to the nearest whole number, half going up. Theorem in proofs/Nearest.antt. Assumes nothing.
use Rattle.std.specs.Prelude.{◌≡◌, ℕ, ◌+◌, ◌*◌, ◌/◌, ◌≤◌, ◌<◌}

abbrev pub nearest : (a b : ℕ) → ℕ
nearest a b = (a + b / 2) / b

-- what the words mean: a / b is at least r - 1/2 and below r + 1/2
abbrev pub Nearest : (a b r : ℕ) → Type 0
Nearest a b r = (2 * (r * b) ≤ 2 * a + b) × (2 * a < 2 * (r * b) + b)

-- so it is of `nearest a b`, and of no other number
abbrev pub RoundsToTheNearest : Type 0
RoundsToTheNearest = (a b : ℕ) → 1 ≤ b → Nearest a b (nearest a b) × ((r : ℕ) → Nearest a b r → r ≡ nearest a b)
