-- `tables::alternating` meets its contract: the loop has the series of the terms behind those that are left. Assumes nothing.
use Rattle.tables.proofs.Terms.{Behind}
use Rattle.tables.proofs.alternating.Given as goal

abbrev pub invariant-loop-a : goal.invariant-loop-a
invariant-loop-a l = Behind l.s l.q l.a-iterator.iter.rest.now l.x
