-- `sliding::steps::View::sums` meets its contract: the sums are those of the rows passed. Assumes nothing.
use Rattle.window.specs.Window.{columns}
use Rattle.window.proofs.Check.{added_none, added-all}
use Rattle.sliding.proofs.steps.View.sums.Goals as goal

pub loop-slot-init : goal.loop-slot-init
loop-slot-init g c = rw (c.none-out.ensures.firsts, c.none-out.ensures.seconds) (added_none g.S.ColumnSums.kind.sums c.args.self.w columns c.args.self.rows.now)

pub returns : goal.returns
returns g c = added-all g.S.ColumnSums.kind.sums c.args.self.w columns c.args.self.rows.now c.loop-slot.slot _ _ c.loop-slot.invariant c.loop-slot-test.false
