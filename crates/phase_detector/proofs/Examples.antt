-- Worked examples of the definitions. Assumes nothing.
use mathlib.Core.Path.{◌≡◌, refl}
use mathlib.Core.List.{[], ◌∷◌}
use lib.IntN.{pos, negsuc}
use Rattle.num.specs.Root.{root, root_in}
use Rattle.window.specs.Window.{column}
use Rattle.window.specs.Sums.{total_by, sum_to, window_mean}
use Rattle.vectors.specs.Tables.{sin_quarter}
use Rattle.vectors.specs.Vector.{cos_at, sin_at, div_round, mean_square, missing_ppm, column_ppm}
use Rattle.phase_detector.specs.Wander.{window_ppm}
use Rattle.phase_detector.specs.Phase.{entries}

-- angles 0 and -32,768: 1,000,000 ppm
opposite : window_ppm (entries (pos 0 ∷ []) ∷ entries (negsuc 32767 ∷ []) ∷ []) ≡ 1000000
unfolding window_mean sum_to column total_by column_ppm missing_ppm mean_square div_round root root_in cos_at sin_at sin_quarter
opposite = refl
