-- Worked examples of the definitions. Assumes nothing.
use mathlib.Core.Path.{◌≡◌, refl}
use mathlib.Core.List.{[], ◌∷◌}
use Rattle.num.specs.Root.{root, root_in}
use Rattle.window.specs.Window.{column}
use Rattle.window.specs.Sums.{total_by, sum_to, window_mean}
use Rattle.presence.specs.Wander.{window_wander, column_wander, against}

-- W 2, amplitudes 1000 and 1010: wander 4
two-frames : window_wander ((1000 ∷ []) ∷ (1010 ∷ []) ∷ []) ≡ 4
unfolding window_wander window_mean sum_to column_wander against root root_in column total_by
two-frames = refl
