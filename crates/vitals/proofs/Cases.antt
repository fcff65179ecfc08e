-- Worked cases; more are in the room's bench table. Assumes nothing.
use mathlib.Core.Path.{◌≡◌, refl}
use mathlib.Core.List.{[], ◌∷◌}
use lib.IntN.{pos, negsuc}
use Rattle.std.specs.Prelude.{Err}
use Rattle.num.specs.Lists.{build, first}
use Rattle.num.specs.Sum.{sum_z}
use Rattle.refusal.specs.declared.Refusal.TheVariants.{Settings}
use Rattle.vitals.specs.Band.{usable, lags_answer, heart_at}
use Rattle.vitals.specs.Series.{highpassed}
use Rattle.vitals.specs.Peak.{best_lag, peak_or, highest}

-- a rate of 0 is refused
no-rate : lags_answer (heart_at 50).band 0 ≡ Err Settings
unfolding usable
no-rate = refl

-- an even moving average of 4 takes five samples
even : highpassed 4 (pos 0 ∷ pos 0 ∷ pos 10 ∷ pos 0 ∷ pos 0 ∷ []) ≡ negsuc 2 ∷ negsuc 1 ∷ pos 8 ∷ negsuc 1 ∷ negsuc 2 ∷ []
unfolding highpassed build sum_z
even = refl

-- the first peak over the floor, and not the highest
first-peak : best_lag (pos 0 ∷ pos 100 ∷ pos 200 ∷ pos 900 ∷ pos 300 ∷ pos 200 ∷ pos 1000 ∷ pos 0 ∷ []) 6 ≡ 3
unfolding peak_or first highest
first-peak = refl

-- no peak: the highest, lowest lag first
rising : best_lag (pos 0 ∷ pos 1 ∷ pos 2 ∷ pos 3 ∷ pos 4 ∷ pos 5 ∷ []) 4 ≡ 4
unfolding peak_or first highest
rising = refl
