-- A signed number kept between two limits (Rust's `z.clamp(low, high)`). Assumes nothing.
use Rattle.std.specs.Prelude.{cond, ℤ}
use Rattle.std.specs.Int.Signed.{lt_z}

abbrev pub clamp_z : (low high z : ℤ) → ℤ
clamp_z low high z = cond (lt_z z low) low (cond (lt_z high z) high z)
