-- The mean over the columns: of a full window it is that of the carried sums. Assumes nothing.
use mathlib.Core.Path.{◌≡◌, refl, ap}
use mathlib.Core.List.{List}
use Prim.Native.Nat.{ℕ, zero, suc, ◌+◌, ◌*◌, ◌/◌, ◌<◌, ◌≤◌, zero-le}
use native.Mathlib.Nat.{suc-mul}
use native.Mathlib.Numerals.{add-one}
use native.Mathlib.Omega.{arith}
use lib.ListN.{length, get_or}
use Rattle.window.specs.Words.{words}
use Rattle.window.specs.Window.{window_of, ring_rows, Long}
use Rattle.window.specs.Sums.{Summing, Lawful, Ring, column_sum, sum_to, carried_mean, window_mean}
use Rattle.window.proofs.Rows.{length_cut}
use Rattle.window.proofs.Ring.{length-ring-row}
use Rattle.window.proofs.View.{window-total, window-width, length-window}

pub sum_to-more : (n : ℕ) (g : ℕ → ℕ) → sum_to (n + 1) g ≡ sum_to n g + g n
unfolding sum_to
sum_to-more n g = ap (λ (k : ℕ). sum_to k g) (add-one n)

-- a sum goes by its terms
pub sum_to-same : (n : ℕ) (g h : ℕ → ℕ) → ((k : ℕ) → k < n → g k ≡ h k) → sum_to n g ≡ sum_to n h
unfolding sum_to
sum_to-same zero g h e = refl
sum_to-same (suc n) g h e = rw (sum_to-same n g h (λ k l. e k (omega arith)), e n (omega arith))

-- a mean is at most its largest term
pub sum_to-le : (n m : ℕ) (g : ℕ → ℕ) → ((k : ℕ) → k < n → g k ≤ m) → sum_to n g ≤ n * m
unfolding sum_to
sum_to-le zero m g h = zero-le
sum_to-le (suc n) m g h = omega (arith, suc-mul n m, sum_to-le n m g (λ k l. h k (omega arith)), h n (omega arith))

-- every row of a ring has c entries
pub ring_long : (w c : ℕ) (bytes : List ℕ) → length bytes ≡ 2 * (w * c) → Long c (ring_rows w c bytes)
ring_long w c bytes whole i h = length-ring-row w c bytes whole i (rw (length_cut w c (words bytes)) at h)

module _ (S : Summing) (lawful : Lawful S) (term : ℕ → S.Number → S.Number → ℕ) where
  -- the carried sums give the mean of a full window, from whichever slot it starts
  pub mean-carried : {w c : ℕ} {bytes : List ℕ} {fs gs : List S.Number} → Ring S w c bytes fs gs → (next n : ℕ) → n ≤ c → 0 < w
      → carried_mean S term w n fs gs ≡ window_mean S term (window_of next w n (ring_rows w c bytes))
  unfolding carried_mean window_mean
  mean-carried {w} {c} {bytes} {fs} {gs} ring next n narrow some =
      let rows : List (List ℕ) = ring_rows w c bytes in
      let len : length rows ≡ w = length_cut w c (words bytes) in
      rw (length-window next w n rows (omega arith), window-width next w n c rows (ring_long w c bytes ring.whole) narrow some (omega arith))
      (ap (λ (t : ℕ). t / n)
      (sum_to-same n (λ sc. term w (get_or fs sc S.none) (get_or gs sc S.none)) (λ sc. term w (column_sum S S.f (window_of next w n rows) sc) (column_sum S S.g (window_of next w n rows) sc))
      (λ k h. rw (
        ring.sums.firsts k (omega arith),
        ring.sums.seconds k (omega arith),
        window-total S lawful S.f next n rows w len k h,
        window-total S lawful S.g next n rows w len k h,
      ))))
