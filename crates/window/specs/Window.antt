-- A window: the last rows of a detector, oldest first, and the ring in memory that shows it (csi.rs and phase.rs, `ring`, `next`, `filled`;
-- vitals.rs likewise). A row is the list of its entries. Assumes nothing.
use Rattle.std.specs.Prelude.{◌≡◌, ℕ, zero, suc, ◌+◌, ◌-◌, ◌/◌, ◌%◌, ◌<◌, min, cond, List, [], ◌∷◌, ◌++◌, map, ltb, length, take, drop, get_or}
use Rattle.num.specs.Limits.{max_subcarriers}
use Rattle.window.specs.Words.{words}

-- entries in a row: one for each subcarrier
abbrev pub columns : ℕ
columns = max_subcarriers

-- the most rows that a ring has
abbrev pub max_rows : ℕ
max_rows = 8192

-- what a number is multiplied by, before a division by 2⁴⁵, in place of a division by w; and the largest quotient that this gives
abbrev pub row_reciprocal : ℕ → ℕ
row_reciprocal w = 35184372088832 / w + 1

abbrev pub most_per_row : ℕ
most_per_row = 524280

-- what stands in one column of the rows
unfoldable pub column : List (List ℕ) → ℕ → List ℕ
column rows sc = map (λ (row : List ℕ). get_or row sc 0) rows

-- the entries of a window's rows
abbrev pub width : List (List ℕ) → ℕ
width window = length (get_or window 0 [])

-- each row has c entries
abbrev pub Long : ℕ → List (List ℕ) → Type 0
Long c rows = (i : ℕ) → i < length rows → length (get_or rows i []) ≡ c

-- the last w of a list, or all of it where it has fewer
abbrev pub last_of : {A : Type 0} → ℕ → List A → List A
last_of w l = drop (length l - w) l

-- one row more, and the oldest gone where there were w
unfoldable pub push_row : ℕ → List (List ℕ) → List ℕ → List (List ℕ)
push_row w window row = drop (length window + 1 - w) (window ++ (row ∷ []))

-- The ring in memory: w rows of c entries
unfoldable pub cut : ℕ → ℕ → List ℕ → List (List ℕ)
cut zero c entries = []
cut (suc w) c entries = take c entries ∷ cut w c (drop c entries)

abbrev pub ring_rows : ℕ → ℕ → List ℕ → List (List ℕ)
ring_rows w c bytes = cut w c (words bytes)

-- a row whose first entries are n of the new ones
abbrev pub overwrite : List ℕ → List ℕ → ℕ → List ℕ
overwrite row new n = take n new ++ drop n row

-- the window in a ring whose next slot to write is `next`: the last `filled` rows written, oldest first, each with its first n entries
unfoldable pub window_of : (next filled n : ℕ) → List (List ℕ) → List (List ℕ)
window_of next filled n rows = map (take n) (drop (length rows - filled) (drop next rows ++ take next rows))

-- after a write, the slot after the last one is the first
abbrev pub next_slot : ℕ → ℕ → ℕ
next_slot w next = (next + 1) % w

-- and one row more is there, up to w
abbrev pub filled_after : ℕ → ℕ → ℕ
filled_after w filled = min w (filled + 1)

-- the slot k places round a ring of w, where k is below 2w
abbrev pub turn : ℕ → ℕ → ℕ
turn k w = cond (ltb k w) k (k - w)
