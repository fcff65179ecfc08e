-- The limit that every crate shares. Assumes nothing.
use Rattle.std.specs.Prelude.{ℕ}

-- the most subcarriers of a sample that are in use: features, angles and a window's row have no more entries
abbrev pub max_subcarriers : ℕ
max_subcarriers = 64
