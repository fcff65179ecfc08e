-- `sliding::steps::replace_row` meets its contract: the loop of `Turns.Written`. Assumes nothing.
use Rattle.window.specs.Window.{columns}
use Rattle.sliding.proofs.Turns.{Written}
use Rattle.sliding.proofs.steps.replace_row.Given as goal

abbrev pub invariant-loop-sc : goal.invariant-loop-sc
invariant-loop-sc g l =
    Written g.S.ColumnSums.kind.sums l.w columns l.slot l.frame.count (g.S.ColumnSums.entries l.frame.entries) l.initial.rows l.rows
    (g.S.ColumnSums.firsts l.carried) (g.S.ColumnSums.seconds l.carried) l.sc
