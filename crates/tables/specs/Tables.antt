-- The arctangent and sine tables at n steps, n + 1 entries: a rule in whole numbers that fixes every entry (docs/TABLES.md). Assumes nothing.
use Rattle.std.specs.Prelude.{List, [], ◌∷◌, ℕ, zero, suc, ◌+◌, ◌-◌, ◌*◌, ◌/◌, ◌^◌}
use Rattle.num.specs.Lists.{build}
use Rattle.num.specs.Nearest.{nearest}

-- 1 with twenty fractional bits, which the numbers inside an entry's series have
abbrev pub one : ℕ
one = 2 ^ 20

-- ---- the arctangent of i / n, 65,536 to a turn. With s = i² and q = i² + n² it is Euler's series, 32 fractions deep:
--     i·n/q · (1 + 2/3·s/q · (1 + 4/5·s/q · (1 + 6/7·s/q · ..)))
-- the 1 there, a radian: 32,768 / π, with the fractional bits
abbrev pub radian : ℕ
radian = 10937044409

abbrev pub fractions : ℕ
fractions = 32

-- a bracket: 1 + 2k/(2k + 1)·s/q · x, x being the bracket inside it, and the product rounded down
unfoldable pub deeper : (s q k x : ℕ) → ℕ
deeper s q k x = radian + x * (2 * k * s) / ((2 * k + 1) * q)

-- the bracket with the k-th fraction, and m fractions in all
unfoldable pub euler : (s q k m : ℕ) → ℕ
euler s q k zero = radian
euler s q k (suc m) = deeper s q k (euler s q (suc k) m)

unfoldable pub atan_entry : (n i : ℕ) → ℕ
atan_entry n i = let q = i * i + n * n in nearest (euler (i * i) q 1 fractions * (i * n)) (q * one)

-- ---- the sine of i / n of a quarter turn, scaled to 16,384. With z = i²/n² it is
--     i/n · (a₀ - z·(a₁ - z·(a₂ - ..)))
-- where aₖ is 16,384·(π/2)²ᵏ⁺¹/(2k + 1)!, with the fractional bits. No difference is below 0
abbrev pub sine_terms : List ℕ
sine_terms = 26986075409 ∷ 11097578693 ∷ 1369108894 ∷ 80431924 ∷ 2756359 ∷ 61828 ∷ 978 ∷ 11 ∷ []

-- a bracket: a - s/q · x, x being the bracket inside it, and the product rounded down
unfoldable pub less : (s q a x : ℕ) → ℕ
less s q a x = a - x * s / q

unfoldable pub alternating : (s q : ℕ) → List ℕ → ℕ
alternating s q [] = 0
alternating s q (a ∷ rest) = less s q a (alternating s q rest)

unfoldable pub sine_entry : (n i : ℕ) → ℕ
sine_entry n i = nearest (alternating (i * i) (n * n) sine_terms * i) (n * one)

-- ---- the tables
pub data Table : Type 0 where
  Arctangents : Table
  Sines : Table

abbrev pub entry_of : Table → (n i : ℕ) → ℕ
entry_of Arctangents = atan_entry
entry_of Sines = sine_entry

unfoldable pub table_of : Table → (n : ℕ) → List ℕ
table_of t n = build (suc n) (entry_of t n)

abbrev pub atan_table : (n : ℕ) → List ℕ
atan_table = table_of Arctangents

abbrev pub sine_table : (n : ℕ) → List ℕ
sine_table = table_of Sines
