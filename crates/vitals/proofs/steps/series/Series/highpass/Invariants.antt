-- `highpass` meets its contract: the window is that around the next sample, and each sample passed is less the mean of its own. Assumes nothing.
use mathlib.Core.Path.{◌≡◌}
use Prim.Native.Nat.{ℕ, ◌<◌}
use lib.ListN.{length}
use lib.IntN.{◌-ℤ◌}
use Rattle.vitals.specs.Series.{at, clamp16, mean_of, half_of, around}
use Rattle.vitals.specs.Steps.{Around}
use Rattle.vitals.proofs.steps.series.Series.highpass.Given as goal

abbrev pub invariant-loop-i : goal.invariant-loop-i
invariant-loop-i l =
    (l.half ≡ half_of l.m (length l.self.samples.now)) × (length l.out ≡ length l.self.samples.now) × (l.w.series ≡ l.self) × Around l.self.samples.now l.half l.i l.w.lo l.w.hi ×
    ((k : ℕ) → k < l.i → at l.out k ≡ clamp16 (at l.self.samples.now k -ℤ mean_of (around l.half l.self.samples.now k)))
