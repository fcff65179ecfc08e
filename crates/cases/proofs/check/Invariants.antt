use Rattle.cases.proofs.Sum.{Behind}
use Rattle.cases.proofs.check.Given as goal

abbrev pub invariant-loop-n : goal.invariant-loop-n
invariant-loop-n g l = Behind g.T.Into.converts l.numbers l.n-iterator.iter.rest.now l.behind l.sum
