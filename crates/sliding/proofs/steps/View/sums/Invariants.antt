-- `sliding::steps::View::sums` meets its contract: the sums are those of the rows passed. Assumes nothing.
use lib.ListN.{take}
use Rattle.window.specs.Window.{columns, ring_rows}
use Rattle.window.specs.Sums.{Carried}
use Rattle.sliding.proofs.steps.View.sums.Given as goal

abbrev pub invariant-loop-slot : goal.invariant-loop-slot
invariant-loop-slot g l =
    Carried g.S.ColumnSums.kind.sums columns (take l.slot (ring_rows l.self.w columns l.self.rows.now)) (g.S.ColumnSums.firsts l.out) (g.S.ColumnSums.seconds l.out)
