-- What a divisor is multiplied with. Assumes nothing.
use Rattle.std.specs.Prelude.{ℕ, ◌+◌, ◌/◌, ◌^◌}

-- for a division by d: 1 / d in 2^46ths, rounded up
abbrev pub inverse : ℕ → ℕ
inverse d = 2 ^ 46 / d + 1
