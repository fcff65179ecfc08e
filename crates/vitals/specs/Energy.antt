-- What an energy is divided by. Assumes nothing.
use Rattle.std.specs.Prelude.{ℕ, ◌+◌, ◌*◌, ◌/◌, ◌^◌}

-- the largest energy: 512 samples of 16 bits
abbrev pub most_energy : ℕ
most_energy = 512 * (32768 * 32768)

-- what to multiply with, for 1000 n / e: in 2^44ths, rounded up
abbrev pub per_energy : (n e : ℕ) → ℕ
per_energy n e = 1000 * n * 2 ^ 44 / e + 1
