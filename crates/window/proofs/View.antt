-- The window in a ring: a push of the ring is a push of the window, and the sums of a full window are those of all rows, since no sum
-- depends on the order of the rows. Assumes nothing.
use mathlib.Core.Path.{◌≡◌, refl, sym, ap, ◌∙◌}
use mathlib.Core.List.Permᴰ
use mathlib.Core.List.{List, [], ◌∷◌, ◌++◌, map, append_assoc, append-nil, map-append, Permᴰ}
use Prim.Native.Nat.{ℕ, zero, suc, ◌+◌, ◌-◌, ◌<◌, ◌≤◌, min}
use native.Mathlib.Nat.{mod-eq_of_lt, mod_self, add_comm}
use native.Mathlib.Numerals.{add-one}
use native.Mathlib.Decide.{dec_lt}
use native.Mathlib.Omega.{arith}
use lib.ListN.{length, take, drop, get_or, set, length-set, length-map, length-append, length-take, length-drop, take-append-drop, drop_of_length-le}
use lib.Seq.{get_or-take, get_or-drop, length-take-le, drop-cons, drop-set-lt, take-suc-set, take_all, drop-append-le, drop-drop}
use Rattle.num.proofs.Lists.{drop-map, map_at}
use Rattle.window.specs.Window.{column, push_row, window_of, next_slot, filled_after, Long}
use Rattle.window.specs.Sums.{Summing, Lawful, column_sum}
use Rattle.window.proofs.Totals.{total-perm}

-- no order

module _ (S : Summing) (lawful : Lawful S) (f : ℕ → S.Number) where
  -- the sums of a column are the same for every order of the rows
  pub column-perm : {rows other : List (List ℕ)} → Permᴰ rows other → (sc : ℕ) → column_sum S f rows sc ≡ column_sum S f other sc
  unfolding column
  column-perm p sc = total-perm S.add S.none lawful.exchange f (Permᴰ.map (λ (row : List ℕ). get_or row sc 0) p)

-- the rows in the order of time: from the next slot on, then from the first
abbrev rotated : ℕ → List (List ℕ) → List (List ℕ)
rotated next rows = drop next rows ++ take next rows

length-rotated : (next : ℕ) (rows : List (List ℕ)) → length (rotated next rows) ≡ length rows
length-rotated next rows =
    rw (length-append (drop next rows) (take next rows), length-drop next rows, length-take next rows) (omega arith)

-- a write at the next slot: the oldest row goes, and the new one stands last
rotated-after : (next : ℕ) (rows : List (List ℕ)) (row : List ℕ) → next < length rows
    → rotated (next + 1) (set rows next row) ≡ drop 1 (rotated next rows) ++ (row ∷ [])
rotated-after next rows row h =
    rw (add-one next, drop-set-lt (suc next) rows next row (omega arith), take-suc-set rows next row h, drop-cons rows next [] h)
    (sym (append_assoc (drop (suc next) rows) (take next rows) (row ∷ [])))

-- past the last slot is the first
rotated-all : (rows : List (List ℕ)) (n : ℕ) → length rows ≡ n → rotated n rows ≡ rotated 0 rows
rotated-all rows n e = rw (drop_of_length-le rows {i = n} (omega arith), take_all n rows (omega arith)) (sym (append-nil rows))

rotated-next : (w next : ℕ) (rows : List (List ℕ)) → next < w → length rows ≡ w → rotated (next_slot w next) rows ≡ rotated (next + 1) rows
rotated-next w next rows h len = either (dec_lt (next + 1) w)
  where
    either : Dec (next + 1 < w) → rotated (next_slot w next) rows ≡ rotated (next + 1) rows
    either (yes k) = rw (mod-eq_of_lt k)
    either (no f) =
        let last : next + 1 ≡ w = omega arith in
        rw (last, mod_self w) (sym (rotated-all rows w len))

-- the last `filled` rows, oldest first
abbrev last_rows : (next filled : ℕ) → List (List ℕ) → List (List ℕ)
last_rows next filled rows = drop (length rows - filled) (rotated next rows)

length_last : (next filled : ℕ) (rows : List (List ℕ)) → filled ≤ length rows → length (last_rows next filled rows) ≡ filled
length_last next filled rows h = rw (length-drop (length rows - filled) (rotated next rows), length-rotated next rows) (omega arith)

-- a row more at the end, the first d dropped, and one of these at the front
drop-turned : (d : ℕ) (xs : List (List ℕ)) (row : List ℕ) → d < length xs → drop d (drop 1 xs ++ (row ∷ [])) ≡ drop (d + 1) xs ++ (row ∷ [])
drop-turned d xs row h =
    let len : length (drop 1 xs) ≡ length xs - 1 = length-drop 1 xs in
    drop-append-le d (drop 1 xs) (row ∷ []) (omega arith) ∙ rw (drop-drop d 1 xs, add_comm d 1)

turned : (w filled : ℕ) (xs : List (List ℕ)) (row : List ℕ) → 0 < w → filled ≤ w → length xs ≡ w
    → drop (w - filled_after w filled) (drop 1 xs ++ (row ∷ [])) ≡ drop (filled + 1 - w) (drop (w - filled) xs ++ (row ∷ []))
turned w filled xs row pos k long = either (dec_lt filled w)
  where
    either : Dec (filled < w) → drop (w - filled_after w filled) (drop 1 xs ++ (row ∷ [])) ≡ drop (filled + 1 - w) (drop (w - filled) xs ++ (row ∷ []))
    either (yes g) =
        let before : w - filled_after w filled + 1 ≡ w - filled = omega arith in
        let none-goes : filled + 1 - w ≡ 0 = omega arith in
        rw (none-goes, drop-turned (w - filled_after w filled) xs row (omega arith), before)
    either (no f) =
        let none_before : w - filled_after w filled ≡ 0 = omega arith in
        let none-now : w - filled ≡ 0 = omega arith in
        let one-goes : filled + 1 - w ≡ 1 = omega arith in
        rw (none_before, none-now, one-goes) (sym (drop-append-le 1 xs (row ∷ []) (omega arith)))

last-push : (w next filled : ℕ) (rows : List (List ℕ)) (row : List ℕ) → next < w → filled ≤ w → length rows ≡ w
    → last_rows (next_slot w next) (filled_after w filled) (set rows next row) ≡ push_row w (last_rows next filled rows) row
unfolding push_row
last-push w next filled rows row h k len =
    rw (length-set rows next row, rotated-next w next (set rows next row) h (length-set rows next row ∙ len), rotated-after next rows row (omega arith), length_last next filled rows (omega arith), len)
    (turned w filled (rotated next rows) row (omega arith) k (length-rotated next rows ∙ len))

-- rows and their first n entries
map_push : (w n : ℕ) (window : List (List ℕ)) (row : List ℕ) → map (take n) (push_row w window row) ≡ push_row w (map (take n) window) (take n row)
unfolding push_row
map_push w n window row = rw (length-map window (take n), ← drop-map (take n) (length window + 1 - w) (window ++ (row ∷ [])), map-append (take n) window (row ∷ []))

-- a ring whose next slot gets a row: its window gets that row's first n entries
pub window-push : (w next filled n : ℕ) (rows : List (List ℕ)) (row : List ℕ) → next < w → filled ≤ w → length rows ≡ w
    → window_of (next_slot w next) (filled_after w filled) n (set rows next row) ≡ push_row w (window_of next filled n rows) (take n row)
unfolding window_of
window-push w next filled n rows row h k len = ap (map (take n)) (last-push w next filled rows row h k len) ∙ map_push w n (last_rows next filled rows) row

-- no row since the restart: no window
pub window-none : (next n : ℕ) (rows : List (List ℕ)) → window_of next 0 n rows ≡ []
unfolding window_of
window-none next n rows = ap (map (take n)) (drop_of_length-le (rotated next rows) {i = length rows - 0} (omega (arith, length-rotated next rows)))

pub length-window : (next filled n : ℕ) (rows : List (List ℕ)) → filled ≤ length rows → length (window_of next filled n rows) ≡ filled
unfolding window_of
length-window next filled n rows h = length-map (last_rows next filled rows) (take n) ∙ length_last next filled rows h

-- a column below n is that of the whole rows
column-taken : (n sc : ℕ) (rows : List (List ℕ)) → sc < n → column (map (take n) rows) sc ≡ column rows sc
unfolding column
column-taken n sc [] h = refl
column-taken n sc (row ∷ rows) h = rw (get_or-take n row sc 0 h, column-taken n sc rows h)

-- the sums of a full window are those of all rows of the ring
module _ (S : Summing) (lawful : Lawful S) (f : ℕ → S.Number) where
  pub window-total : (next n : ℕ) (rows : List (List ℕ)) (w : ℕ) → length rows ≡ w → (sc : ℕ) → sc < n
      → column_sum S f (window_of next w n rows) sc ≡ column_sum S f rows sc
  unfolding window_of
  window-total next n rows w len sc h =
      let all : length rows - w ≡ 0 = omega arith in
      rw (column-taken n sc (drop (length rows - w) (rotated next rows)) h, all)
      (column-perm S lawful f (Permᴰ.append_comm (drop next rows) (take next rows)) sc
      ∙ ap (λ (l : List (List ℕ)). column_sum S f l sc) (take-append-drop next rows))

pub long-drop : (c k : ℕ) (rows : List (List ℕ)) → Long c rows → Long c (drop k rows)
long-drop c k rows long i h = rw (get_or-drop k rows i []) (long (k + i) (omega (arith, length-drop k rows)))

long-take : (c k : ℕ) (rows : List (List ℕ)) → Long c rows → Long c (take k rows)
long-take c k rows long i h =
    let both : i < min k (length rows) = rw length-take at h in
    rw (get_or-take k rows i [] (omega arith)) (long i (omega arith))

pub long-append : (c : ℕ) (xs ys : List (List ℕ)) → Long c xs → Long c ys → Long c (xs ++ ys)
long-append c [] ys lx ly i h = ly i h
long-append c (x ∷ xs) ys lx ly zero h = lx 0 (omega arith)
long-append c (x ∷ xs) ys lx ly (suc i) h = long-append c xs ys (λ j k. lx (suc j) (omega arith)) ly i (omega arith)

-- the rows of a window have n entries
long-taken : (n c : ℕ) (rows : List (List ℕ)) → n ≤ c → Long c rows → Long n (map (take n) rows)
long-taken n c rows narrow long i h =
    let k : i < length rows = omega (arith, length-map rows (take n)) in
    rw (map_at (take n) rows i [] [] k) (length-take-le n (get_or rows i []) (omega (arith, long i k)))

pub window-long : (next filled n c : ℕ) (rows : List (List ℕ)) → Long c rows → n ≤ c → Long n (window_of next filled n rows)
unfolding window_of
window-long next filled n c rows long narrow =
    long-taken n c (last_rows next filled rows) narrow
    (long-drop c (length rows - filled) (rotated next rows) (long-append c (drop next rows) (take next rows) (long-drop c next rows long) (long-take c next rows long)))

pub window-width : (next filled n c : ℕ) (rows : List (List ℕ)) → Long c rows → n ≤ c → 0 < filled → filled ≤ length rows → length (get_or (window_of next filled n rows) 0 []) ≡ n
window-width next filled n c rows long narrow some most = window-long next filled n c rows long narrow 0 (omega (arith, length-window next filled n rows most))
