-- The bench table, proved in one go by computation about the definitions. Assumes nothing.
use mathlib.Core.Path.{◌≡◌, refl}
use mathlib.Core.List.{map}
use Rattle.num.specs.Root.{root, root_in}
use Rattle.num.specs.Sum.{total}
use Rattle.num.specs.Wrap.{signed8, wrap16}
use Rattle.window.specs.Window.{column, push_row}
use Rattle.window.specs.Sums.{total_by, sum_to, window_mean}
use Rattle.csi.specs.Features.{amplitude_at, describe, normalised_of, scale, variance_from}
use Rattle.fingerprint.specs.Baseline.{mean_of, distance_from}
use Rattle.detector.specs.Detector.{push_frame}
use Rattle.presence.specs.Wander.{against, column_wander, window_wander}
use Rattle.phase.specs.Tables.{atan_octant}
use Rattle.phase.specs.Angle.{table_index, octant_angle, first_quadrant, mirror_x, mirror_y, angle_of}
use Rattle.vectors.specs.Tables.{sin_quarter}
use Rattle.vectors.specs.Vector.{cos_at, sin_at, div_round, mean_square, missing_ppm, column_ppm}
use Rattle.room_sensing.specs.Bench.{Row, bench}

pub stars : map (λ (r : Row). r.given) bench ≡ map (λ (r : Row). r.due) bench
unfolding
    root root_in total signed8 wrap16 column push_row total_by sum_to window_mean amplitude_at describe normalised_of scale variance_from mean_of distance_from
    push_frame against column_wander window_wander atan_octant table_index octant_angle first_quadrant mirror_x mirror_y angle_of sin_quarter cos_at sin_at div_round
    mean_square missing_ppm column_ppm
stars = refl
