-- `sum_columns` meets its contract: the first sc columns are in the sums. Assumes nothing.
use mathlib.Core.Path.{◌≡◌}
use Prim.Native.Nat.{◌≤◌}
use lib.ListN.{length}
use Rattle.estimator.specs.Steps.{blocks_in}
use Rattle.estimator.proofs.Summing.{Summing}
use Rattle.estimator.proofs.column.sum_columns.Given as goal

abbrev pub invariant-loop-sc : goal.invariant-loop-sc
invariant-loop-sc l =
    (l.sc ≤ l.view.count) × (l.summed.lags ≡ l.fn.lags) × (length l.a ≡ l.view.n) × (length l.b ≡ l.view.n) ×
    Summing l.m (blocks_in l.view) l.fn.lags.hi l.sc l.summed.used l.summed.by_lag
