-- A column of the window as a series: what is read round the ring. Assumes nothing.
use mathlib.Core.Path.{◌≡◌, sym, ap, ◌∙◌}
use mathlib.Core.List.{List}
use Prim.Native.Nat.{ℕ, ◌+◌, ◌-◌, ◌≤◌, ◌<◌}
use native.Mathlib.Omega.{arith}
use borrow.Author.Tests.{lt-ltb, le-ltb}
use lib.ListN.{length, length-map}
use lib.Seq.{ext_get_or}
use lib.IntN.{ℤ, pos}
use Rattle.num.specs.Wrap.{wrap16}
use Rattle.num.proofs.Lists.{map_at}
use Rattle.window.specs.Window.{columns, column, ring_rows, window_of, turn}
use Rattle.window.specs.Words.{words}
use Rattle.window.proofs.Rows.{length_cut, length-column}
use Rattle.window.proofs.View.{length-window}
use Rattle.window.proofs.Round.{column-round}
use Rattle.vitals.specs.Series.{at}
use Rattle.estimator.specs.Estimate.{series}
use Rattle.estimator.specs.Steps.{entry_of}

pub length-series : (blocks : List (List ℕ)) (sc : ℕ) → length (series blocks sc) ≡ length blocks
unfolding series
length-series blocks sc = length-map (column blocks sc) (λ (mean : ℕ). wrap16 (pos mean)) ∙ length-column blocks sc

module _ (n next count : ℕ) (bytes : List ℕ) (in-ring : next < n) (sc : ℕ) (in_count : sc < count) (narrow : count ≤ columns) where
  window : List (List ℕ)
  window = window_of next n count (ring_rows n columns bytes)

  long : length window ≡ n
  unfolding window
  long = length-window next n count (ring_rows n columns bytes) (omega (arith, length_cut n columns (words bytes)))

  -- a list whose entries are those of the column, in turn
  pub column-read : (x : List ℤ) → length x ≡ n → ((k : ℕ) → k < n → at x k ≡ entry_of bytes (turn (next + k) n) sc)
      → x ≡ series (window_of next n count (ring_rows n columns bytes)) sc
  unfolding series window
  column-read x l h =
      ext_get_or (pos 0) x (series window sc) (l ∙ sym (length-series window sc ∙ long))
      (λ k b. h k (omega arith) ∙ ap (λ (v : ℕ). wrap16 (pos v)) (sym (column-round n columns next count bytes in-ring narrow sc in_count k (omega arith)))
      ∙ sym (map_at (λ (v : ℕ). wrap16 (pos v)) (column window sc) k 0 (pos 0) (omega (arith, length-column window sc, long))))

-- the turn: from the oldest slot to the last, then from the first
pub turn_low : (k n : ℕ) → k < n → turn k n ≡ k
turn_low k n h = rw (lt-ltb k n h)

pub turn-high : (k n : ℕ) → n ≤ k → turn k n ≡ k - n
turn-high k n h = rw (le-ltb k n h)
