-- Worked examples of the definitions, by computation: the bench cases of angles, an index that rounds up on either side of the
-- diagonal, a walk across the cut, and a line taken off. Assumes nothing.
use mathlib.Core.Path.{◌≡◌, refl}
use mathlib.Core.List.{[], ◌∷◌}
use lib.IntN.{pos, negsuc}
use Rattle.num.specs.Sum.{sum_z}
use Rattle.num.specs.Wrap.{wrap16}
use Rattle.phase.specs.Tables.{atan_octant}
use Rattle.phase.specs.Angle.{angle_of, mirror_x, mirror_y, first_quadrant, octant_angle, table_index}
use Rattle.phase.specs.Line.{phases_of, unwrapped, walk, weighted, sum_k, sum_kk, denominator, slope_of, intercept_of, residuals, residual_of}

-- (0, 0); y 0, x -1; y -1, x -64
pub angles : (angle_of (pos 0) (pos 0) ≡ pos 0) × (angle_of (pos 0) (negsuc 0) ≡ negsuc 32767) × (angle_of (negsuc 0) (negsuc 63) ≡ negsuc 32604)
unfolding wrap16 atan_octant angle_of mirror_x mirror_y first_quadrant octant_angle table_index
angles = (refl, refl, refl)

-- 2 * 256 / 3 is 170.67, nearest to 171
pub rounded : (angle_of (pos 2) (pos 3) ≡ pos 6142) × (angle_of (pos 3) (pos 2) ≡ pos 10242)
unfolding wrap16 atan_octant angle_of mirror_x mirror_y first_quadrant octant_angle table_index
rounded = (refl, refl)

-- from 32,000 over the cut and back
pub walked : unwrapped (pos 32000 ∷ negsuc 32535 ∷ pos 32700 ∷ []) ≡ pos 32000 ∷ pos 33000 ∷ pos 32700 ∷ []
unfolding unwrapped walk wrap16
walked = refl

pub line : phases_of (pos 100 ∷ pos 250 ∷ negsuc 29 ∷ pos 700 ∷ pos 333 ∷ []) ≡ pos 12 ∷ pos 71 ∷ negsuc 300 ∷ pos 337 ∷ negsuc 120 ∷ []
unfolding phases_of unwrapped walk wrap16 sum_z weighted sum_k sum_kk denominator slope_of intercept_of residuals residual_of
line = refl
