-- Rules that a table of numbers is held to (docs/SPEC.md, "Phase"). Assumes nothing.
use Rattle.std.specs.Prelude.{◌≡◌, List, ℕ, ◌+◌, ◌-◌, ◌≤◌, ◌<◌, length, get_or}
use Rattle.num.specs.Sum.{apart, square}

-- n entries from 0 to `top`: none is above the next, and neighbours may be equal
pub record Ascends (n top : ℕ) (table : List ℕ) : Type 0 where
  pub long : length table ≡ n
  pub first : get_or table 0 1 ≡ 0
  pub last : get_or table (n - 1) 0 ≡ top
  pub order : (i : ℕ) → i + 1 < n → get_or table i 0 ≤ get_or table (i + 1) 0

-- the square of entry i and that of entry n - 1 - i
abbrev pub squares : (n : ℕ) → List ℕ → ℕ → ℕ
squares n table i = square (get_or table i 0) + square (get_or table (n - 1 - i) 0)

-- n entries, and at each place the sum of those squares differs from `whole` by at most `tolerance`
pub record SquaresNear (n whole tolerance : ℕ) (table : List ℕ) : Type 0 where
  pub long : length table ≡ n
  pub near : (i : ℕ) → i < n → apart (squares n table i) whole ≤ tolerance
