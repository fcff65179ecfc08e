-- `phase::line::LineSums::sum_k` meets its contract. Assumes nothing.
use Rattle.std.proofs.Common.{rules}
use Rattle.phase.specs.Line.{sum_k}
use Rattle.phase.proofs.line.LineSums.sum_k.Goals as goal

pub returns : goal.returns
unfolding sum_k
returns c = search rules
