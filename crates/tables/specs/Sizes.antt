-- Limits that the code's steps keep to. Assumes nothing.
use Rattle.std.specs.Prelude.{ℕ, ◌*◌, ◌≤◌}
use Rattle.tables.specs.Tables.{one}

-- the steps of the finer table; an entry's i² + n², and what it is divided by; what 16 bits hold
abbrev pub most_steps : ℕ
most_steps = 1024

abbrev pub most_squares : ℕ
most_squares = 2 * (most_steps * most_steps)

abbrev pub most_divisor : ℕ
most_divisor = most_squares * one

abbrev pub most_entry : ℕ
most_entry = 65535

-- entry i of n steps
abbrev pub Place : (n i : ℕ) → Type 0
Place n i = (i ≤ n) × (1 ≤ n) × (n ≤ most_steps)

-- the ratio s / q in the series of the arctangent, and in that of the sine
abbrev pub AtMostHalf : (s q : ℕ) → Type 0
AtMostHalf s q = (2 * s ≤ q) × (1 ≤ q) × (q ≤ most_squares)

abbrev pub AtMostOne : (s q : ℕ) → Type 0
AtMostOne s q = (s ≤ q) × (1 ≤ q) × (q ≤ most_steps * most_steps)
