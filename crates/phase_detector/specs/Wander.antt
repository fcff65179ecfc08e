-- The wander of a window of angles, in parts per million: the mean over its columns of the circular variance (phase.rs,
-- `compute_wander`). An entry is an angle's 16 bits. Assumes nothing.
use Rattle.std.specs.Prelude.{ℕ, ◌*◌, ◌≤◌, List, ℤ, pos, nat_abs, ◌+ℤ◌}
use Rattle.std.proofs.Math.IntN.{ℤ_discrete}
use Rattle.window.specs.Sums.{Summing, window_mean}
use Rattle.vectors.specs.Vector.{cos_at, sin_at, column_ppm}

-- what phase carries of each column of angles: the sum of their cosines and that of their sines
abbrev pub angles : Summing
angles = record { Number = ℤ; add = ◌+ℤ◌; none = pos 0; same = ℤ_discrete; f = cos_at; g = sin_at }

-- the mean over the columns
abbrev pub window_ppm : List (List ℕ) → ℕ
window_ppm window = window_mean angles column_ppm window

-- what the two sums of a column of w angles meet
pub record ColumnRange (w : ℕ) (c s : ℤ) : Type 0 where
  pub cosines : nat_abs c ≤ 16384 * w
  pub sines : nat_abs s ≤ 16384 * w
