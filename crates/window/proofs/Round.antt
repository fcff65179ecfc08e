-- A full window read round the ring, from the oldest row on. Assumes nothing.
use mathlib.Core.Path.{◌≡◌, sym, ap, ◌∙◌}
use mathlib.Core.List.{List, [], ◌++◌, map}
use Prim.Native.Nat.{ℕ, ◌+◌, ◌-◌, ◌*◌, ◌<◌, ◌≤◌}
use native.Mathlib.Decide.{dec_lt}
use native.Mathlib.Omega.{arith}
use lib.ListN.{length, take, drop, get_or, length-drop, get_or-append, get_or-map}
use lib.Seq.{get_or-take, get_or-drop, take-nil, get_or-append-add}
use borrow.Author.Tests.{lt-ltb, le-ltb}
use Rattle.window.specs.Words.{words}
use Rattle.window.specs.Window.{ring_rows, window_of, column, turn}
use Rattle.window.proofs.Rows.{length_cut, cut_at, column-at}

at_map : (n : ℕ) (xs : List (List ℕ)) (k : ℕ) → get_or (map (take n) xs) k [] ≡ take n (get_or xs k [])
at_map n xs k = ap (get_or (map (take n) xs) k) (sym (take-nil n)) ∙ get_or-map (take n) xs k []

pub turn-lt : (k w : ℕ) → k < w + w → turn k w < w
turn-lt k w h = go (dec_lt k w)
  where
    go : Dec (k < w) → turn k w < w
    go (yes l) = rw (lt-ltb k w l) l
    go (no f) = rw (le-ltb k w (omega arith)) (omega arith)

rotated-at : (next : ℕ) (rows : List (List ℕ)) (k : ℕ) → next ≤ length rows → k < length rows
    → get_or (drop next rows ++ take next rows) k [] ≡ get_or rows (turn (next + k) (length rows)) []
rotated-at next rows k h l = go (dec_lt (next + k) (length rows))
  where
    go : Dec (next + k < length rows) → get_or (drop next rows ++ take next rows) k [] ≡ get_or rows (turn (next + k) (length rows)) []
    go (yes b) = rw (lt-ltb (next + k) (length rows) b) (get_or-append (drop next rows) (take next rows) [] k (omega (arith, length-drop next rows)) ∙ get_or-drop next rows k [])
    go (no f) =
        let j : ℕ = next + k - length rows in
        let e : k ≡ length (drop next rows) + j = omega (arith, length-drop next rows) in
        rw (le-ltb (next + k) (length rows) (omega arith))
        (ap (λ (i : ℕ). get_or (drop next rows ++ take next rows) i []) e ∙ get_or-append-add (drop next rows) (take next rows) j [] ∙ get_or-take next rows j [] (omega arith))

-- the entry sc of the row k of a full window, oldest first, is the entry sc of the slot k places on from `next`
module _ (w c next n : ℕ) (bytes : List ℕ) (in-ring : next < w) (narrow : n ≤ c) (sc : ℕ) (in_row : sc < n) where
  pub window-at : (k : ℕ) → k < w → get_or (get_or (window_of next w n (ring_rows w c bytes)) k []) sc 0 ≡ get_or (words bytes) (turn (next + k) w * c + sc) 0
  unfolding window_of
  window-at k h =
      let rows : List (List ℕ) = ring_rows w c bytes in
      let len : length rows ≡ w = length_cut w c (words bytes) in
      let all : length rows - w ≡ 0 = omega arith in
      let r : get_or (drop next rows ++ take next rows) k [] ≡ get_or rows (turn (next + k) w) [] =
      rotated-at next rows k (omega arith) (omega arith) ∙ ap (λ (m : ℕ). get_or rows (turn (next + k) m) []) len in
      rw (all, at_map n (drop next rows ++ take next rows) k, r, get_or-take n (get_or rows (turn (next + k) w) []) sc 0 in_row)
      (cut_at w c (words bytes) (turn (next + k) w) sc (turn-lt (next + k) w (omega arith)) (omega arith))

  -- the same of its column
  pub column-round : (k : ℕ) → k < w → get_or (column (window_of next w n (ring_rows w c bytes)) sc) k 0 ≡ get_or (words bytes) (turn (next + k) w * c + sc) 0
  column-round k h = column-at (window_of next w n (ring_rows w c bytes)) sc k ∙ window-at k h
