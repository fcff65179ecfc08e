-- What the contracts of the inner steps say. Assumes nothing.
use Rattle.std.specs.Prelude.{◌≡◌, List, ℕ, ◌+◌, ◌*◌, ◌<◌, length, get_or, ℤ, pos}
use Rattle.num.specs.Wrap.{wrap16}
use Rattle.window.specs.Window.{columns, ring_rows, window_of}
use Rattle.window.specs.Words.{words}
use Rattle.vitals.specs.Series as samples
use Rattle.estimator.specs.declared.view.View.{View}

-- the entry sc of a slot, a signed number
abbrev pub entry_of : (bytes : List ℕ) → (slot sc : ℕ) → ℤ
entry_of bytes slot sc = wrap16 (pos (get_or (words bytes) (slot * columns + sc) 0))

-- y is x with `many` entries of column sc from slot `first` on, from place `at` on
pub record Read (bytes : List ℕ) (first many sc at : ℕ) (x y : List ℤ) : Type 0 where
  pub long : length y ≡ length x
  pub entries : (k : ℕ) → k < many → samples.at y (at + k) ≡ entry_of bytes (first + k) sc
  pub before : (k : ℕ) → k < at → samples.at y k ≡ samples.at x k

-- the blocks of a full window, in the order of time
abbrev pub blocks_in : View → List (List ℕ)
blocks_in v = window_of v.next v.n v.count (ring_rows v.n columns v.rows.now)
