-- `add` meets its contract: the first sc amplitudes are added. Assumes nothing.
use mathlib.Core.Path.{◌≡◌}
use lib.ListN.{length}
use Rattle.num.proofs.Totals.{Adding}
use Rattle.estimator.proofs.VitalsEstimator.add.Given as goal

abbrev pub invariant-loop-sc : goal.invariant-loop-sc
invariant-loop-sc l =
    (l.self.progress ≡ l.fn.self.progress) × Adding (length l.frame) l.fn.self.acc l.frame l.self.acc l.sc
