-- `sliding::steps::View::add_row` meets its contract: the loop of `Turns.Adding`. Assumes nothing.
use Rattle.window.specs.Window.{columns}
use Rattle.sliding.proofs.Turns.{Adding}
use Rattle.sliding.proofs.steps.View.add_row.Given as goal

abbrev pub invariant-loop-sc : goal.invariant-loop-sc
invariant-loop-sc g l = Adding g.S.ColumnSums.kind.sums l.self.w columns l.slot l.self.rows.now (g.S.ColumnSums.firsts l.sums) (g.S.ColumnSums.seconds l.sums) l.sc
