-- `LagSums::add_lags` meets its contract: the lags below `lag` are done, those from it on are as they were. Assumes nothing.
use mathlib.Core.Path.{◌≡◌}
use Prim.Native.Nat.{ℕ, ◌+◌, ◌≤◌, ◌<◌}
use lib.IntN.{◌+ℤ◌}
use Rattle.vitals.specs.Series.{at}
use Rattle.vitals.specs.Correlation.{corr_of}
use Rattle.vitals.proofs.steps.summed.LagSums.add_lags.Given as goal

abbrev pub invariant-loop-lag : goal.invariant-loop-lag
invariant-loop-lag g l =
    (l.self.lags ≡ l.fn.self.lags) × (l.self.used ≡ l.fn.self.used + 1) ×
    ((k : ℕ) → k < l.lag → 1 ≤ k → at l.self.by_lag k ≡ at l.fn.self.by_lag k +ℤ corr_of l.series k) ×
    ((k : ℕ) → l.lag ≤ k → at l.self.by_lag k ≡ at l.fn.self.by_lag k) × (at l.self.by_lag 0 ≡ at l.fn.self.by_lag 0)
