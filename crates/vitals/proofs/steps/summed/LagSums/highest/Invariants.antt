-- `highest` meets its contract: `best` is the highest of the lags below `lag`. Assumes nothing.
use mathlib.Core.Path.{◌≡◌}
use Prim.Native.Nat.{◌≤◌, ◌<◌, ◌-◌}
use Rattle.vitals.specs.Peak.{highest}
use Rattle.vitals.proofs.steps.summed.LagSums.highest.Given as goal

abbrev pub invariant-loop-lag : goal.invariant-loop-lag
invariant-loop-lag g l = (2 ≤ l.best) × (l.best < l.lag) × (l.best ≡ highest l.self.by_lag (l.lag - 3))
