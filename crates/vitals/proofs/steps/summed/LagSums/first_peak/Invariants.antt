use Prim.Native.Nat.{◌+◌, ◌≤◌, ◌-◌}
use Rattle.vitals.specs.Peak.{is_peak}
use Rattle.num.proofs.First.{Searching}
use Rattle.vitals.proofs.steps.summed.LagSums.first_peak.Given as goal

abbrev pub invariant-loop-lag : goal.invariant-loop-lag
invariant-loop-lag g l =
    (2 ≤ l.lag) × (l.lag ≤ l.self.lags.hi + 1) × Searching (is_peak l.self.by_lag l.floor) 2 (l.self.lags.hi + 1) l.lag

abbrev pub decreases-loop-lag : goal.decreases-loop-lag
decreases-loop-lag g l = l.self.lags.hi + 1 - l.lag
