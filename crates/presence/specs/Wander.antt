-- The wander of a window, in permille: the mean over its columns of a column's deviation over its mean (csi.rs,
-- `compute_wander`). Assumes nothing.
use Rattle.std.specs.Prelude.{ℕ, zero, suc, ◌+◌, ◌-◌, ◌*◌, ◌/◌, ◌≤◌, min, List}
use Rattle.std.proofs.Math.Decide.{ℕ_discrete}
use Rattle.num.specs.Root.{root}
use Rattle.num.specs.Sum.{square}
use Rattle.window.specs.Sums.{Summing, window_mean}

abbrev pub self : ℕ → ℕ
self x = x

-- what presence carries of each column of amplitudes: their sum and the sum of their squares
abbrev pub amplitudes : Summing
amplitudes = record { Number = ℕ; add = ◌+◌; none = 0; same = ℕ_discrete; f = self; g = square }

-- sixteen times the deviation of w numbers with the sum s and the square sum q: w * w times the variance is w * q - s * s
abbrev pub deviation16 : (w s q : ℕ) → ℕ
deviation16 w s q = root (256 * (w * q - s * s)) / w

-- a deviation against its mean; a mean of 0 adds nothing
unfoldable pub against : (mean deviation : ℕ) → ℕ
against zero d = 0
against (suc m) d = d * 1000 / (suc m * 16)

unfoldable pub column_wander : (w s q : ℕ) → ℕ
column_wander w s q = against (s / w) (deviation16 w s q)

-- the mean over the columns, at most 16 bits
unfoldable pub window_wander : List (List ℕ) → ℕ
window_wander window = min 65535 (window_mean amplitudes column_wander window)

-- what the two sums of a column of w entries of 16 bits meet
pub record ColumnRange (w s q : ℕ) : Type 0 where
  pub most : s ≤ 65535 * w
  pub squares : q ≤ 65535 * s
