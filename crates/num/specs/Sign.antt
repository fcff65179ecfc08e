-- A size and a sign. Assumes nothing.
use Rattle.std.specs.Prelude.{Bool, cond, ℕ, ℤ, pos, neg_ℤ}

abbrev pub with_sign : (negative : Bool) → (size : ℕ) → ℤ
with_sign negative size = cond negative (neg_ℤ (pos size)) (pos size)
