-- `judge` meets its contract. Assumes nothing.
use Rattle.estimator.proofs.Facts.{legal-facts}
use Rattle.estimator.proofs.VitalsEstimator.judge.Goals as goal

pub invariant_of-view : goal.invariant_of-view
invariant_of-view c =
    let l = legal-facts c.args.plan.config c.args.plan.n c.args.plan.legal in record { few = l.most; whole = c.requires.0; inside = c.requires.1; narrow = c.requires.2 }

pub estimate-requires : goal.estimate-requires
estimate-requires c = let l = legal-facts c.args.plan.config c.args.plan.n c.args.plan.legal in (l.least, l.band)
