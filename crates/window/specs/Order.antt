-- Rows in another order, and what does not depend on it (docs/SPEC.md, "A window has no order"). Assumes nothing.
use Rattle.std.specs.Prelude.{◌≡◌, Bool, true, false, cond, ◌&&◌, List, [], ◌∷◌, ℕ, ◌+◌, eqb}
use Rattle.window.specs.Window.{Long}
use Rattle.window.specs.Sums.{Summing, column_sum}

-- whether two rows have the same entries
unfoldable pub same_row : List ℕ → List ℕ → Bool
same_row [] [] = true
same_row [] (y ∷ ys) = false
same_row (x ∷ xs) [] = false
same_row (x ∷ xs) (y ∷ ys) = eqb x y && same_row xs ys

-- how often a row occurs among others
unfoldable pub occurrences : List ℕ → List (List ℕ) → ℕ
occurrences row [] = 0
occurrences row (x ∷ rows) = cond (same_row row x) 1 0 + occurrences row rows

-- the same rows in any order: each occurs as often
abbrev pub Reordered : List (List ℕ) → List (List ℕ) → Type 0
Reordered rows other = (row : List ℕ) → occurrences row rows ≡ occurrences row other

-- The one fact: no column's sum depends on the order of the rows, whatever function of its entries is summed.
abbrev pub SumsHaveNoOrder : Summing → Type 0
SumsHaveNoOrder S =
    (f : ℕ → S.Number) (rows other : List (List ℕ)) → Reordered rows other → (sc : ℕ) → column_sum S f rows sc ≡ column_sum S f other sc

-- A number drawn from a window, whose rows all have n entries, does not depend on their order.
abbrev pub HasNoOrder : (List (List ℕ) → ℕ) → Type 0
HasNoOrder of = (n : ℕ) (window other : List (List ℕ)) → Long n window → Reordered window other → of window ≡ of other
