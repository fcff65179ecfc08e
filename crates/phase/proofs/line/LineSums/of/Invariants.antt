-- `phase::line::LineSums::of` meets its contract: the sums so far and those of the rest make the whole. Assumes nothing.
use Rattle.phase.proofs.Walks.{Summing}
use Rattle.phase.proofs.line.LineSums.of.Given as goal

abbrev pub invariant-loop-k : goal.invariant-loop-k
invariant-loop-k l = Summing l.angles l.su l.sku l.walk.place l.walk.angle l.k
