-- Sums and distances. Assumes nothing.
use Rattle.std.specs.Prelude.{List, [], ◌∷◌, ℕ, ◌+◌, ◌-◌, ◌*◌, ℤ, pos, ◌+ℤ◌, ◌*ℤ◌}

-- the sum of a list
unfoldable pub total : List ℕ → ℕ
total [] = 0
total (x ∷ xs) = x + total xs

-- |a - b|: one of the two differences is 0, since `-` stops at 0
abbrev pub apart : ℕ → ℕ → ℕ
apart a b = (a - b) + (b - a)

abbrev pub square : ℕ → ℕ
square a = a * a

-- the sum of a list of signed numbers
unfoldable pub sum_z : List ℤ → ℤ
sum_z [] = pos 0
sum_z (u ∷ us) = u +ℤ sum_z us

-- the sum of the products of elements at one place, as far as both lists go (`dot_i16`, and of a list with itself `sum_sq_i16`)
unfoldable pub dot_z : List ℤ → List ℤ → ℤ
dot_z [] ys = pos 0
dot_z (x ∷ xs) [] = pos 0
dot_z (x ∷ xs) (y ∷ ys) = x *ℤ y +ℤ dot_z xs ys

-- the most products that the code sums up
abbrev pub max_terms : ℕ
max_terms = 4294967296
