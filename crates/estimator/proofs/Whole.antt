-- The estimate from its parts. Assumes nothing.
use mathlib.Core.Path.{◌≡◌, refl}
use mathlib.Core.List.{List}
use Prim.Native.Nat.{ℕ, ◌+◌, ◌-◌, ◌≤◌, ◌<◌}
use native.Mathlib.Omega.{arith}
use borrow.Author.Tests.{lt-ltb, le-ltb, le-leb, lt-leb, eq-eqb, ne_eqb}
use lib.ListN.{length}
use lib.IntN.{ℤ}
use Rattle.window.specs.Window.{columns, ring_rows, window_of}
use Rattle.window.specs.Words.{words}
use Rattle.window.proofs.Rows.{length_cut}
use Rattle.window.proofs.View.{length-window}
use Rattle.vitals.specs.Series.{at}
use Rattle.vitals.specs.Correlation.{curve}
use Rattle.vitals.specs.Peak.{best_lag}
use Rattle.vitals.proofs.Peaks.{best-inside, best-same}
use Rattle.vitals.specs.declared.config.VitalsConfig.{VitalsConfig}
use Rattle.estimator.specs.Estimate.{empty_at, read_at, rhythm_of, columns_of, lowest, longest, estimate_of}

-- what is read from sums that are the same up to the lag hi + 1
pub read-same : (cfg : VitalsConfig) (time lo hi used : ℕ) (s t : List ℤ) → 2 ≤ hi → ((k : ℕ) → k ≤ hi + 1 → at s k ≡ at t k)
    → read_at cfg time lo hi used s (best_lag s hi) ≡ read_at cfg time lo hi used t (best_lag t hi)
read-same cfg time lo hi used s t h same =
    let b = best_lag t hi in let i = best-inside t hi h in
    rw (best-same s t hi same h, same (b - 1) (omega (arith, i.1)), same b (omega (arith, i.1)), same (b + 1) (omega (arith, i.1))) refl

module _ (cfg : VitalsConfig) (time lo hi : ℕ) (xs : List (List ℤ)) where
  pub rhythm-none : length xs ≡ 0 → empty_at time ≡ rhythm_of cfg time lo hi xs
  unfolding rhythm_of
  rhythm-none e = rw (eq-eqb (length xs) 0 e)

  pub rhythm-some : (length xs ≡ 0 → ⊥) → read_at cfg time lo hi (length xs) (curve xs hi) (best_lag (curve xs hi) hi) ≡ rhythm_of cfg time lo hi xs
  unfolding rhythm_of
  rhythm-some f = rw (ne_eqb (length xs) 0 f)

-- a window of n blocks
module _ (cfg : VitalsConfig) (time n : ℕ) (blocks : List (List ℕ)) (long : length blocks ≡ n) where
  pub estimate-none : longest cfg n ≤ lowest cfg → empty_at time ≡ estimate_of cfg time blocks
  unfolding estimate_of
  estimate-none h = rw (long, le-leb (longest cfg n) (lowest cfg) h)

  pub estimate-wide : lowest cfg < longest cfg n → 128 < longest cfg n + 1 → empty_at time ≡ estimate_of cfg time blocks
  unfolding estimate_of
  estimate-wide h k = rw (long, lt-leb (longest cfg n) (lowest cfg) h, lt-ltb 128 (longest cfg n + 1) k)

  pub estimate-some : lowest cfg < longest cfg n → longest cfg n + 1 ≤ 128
      → rhythm_of cfg time (lowest cfg) (longest cfg n) (columns_of cfg.highpass blocks) ≡ estimate_of cfg time blocks
  unfolding estimate_of
  estimate-some h k = rw (long, lt-leb (longest cfg n) (lowest cfg) h, le-ltb 128 (longest cfg n + 1) k)

pub full-long : (n next count : ℕ) (bytes : List ℕ) → length (window_of next n count (ring_rows n columns bytes)) ≡ n
full-long n next count bytes = length-window next n count (ring_rows n columns bytes) (omega (arith, length_cut n columns (words bytes)))
