-- `census::add_row` meets its contract: the loop of `Counting`. Assumes nothing.
use Rattle.num.proofs.Counting.{Counted}
use Rattle.census.proofs.add_row.Given as goal

abbrev pub invariant-loop-v : goal.invariant-loop-v
invariant-loop-v l = Counted l.initial.counts l.row l.counts l.v-index
