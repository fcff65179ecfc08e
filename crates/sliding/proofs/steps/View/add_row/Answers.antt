-- `sliding::steps::View::add_row` meets its contract: the loop of `Turns.Adding`, whose sums are in the range of their rows. Assumes nothing.
use native.Mathlib.Omega.{arith}
use Rattle.window.specs.Window.{columns, max_rows}
use Rattle.sliding.proofs.Range.{part-range}
use Rattle.sliding.proofs.Turns.{add_start, add_turn, add-end}
use Rattle.sliding.proofs.steps.View.add_row.Goals as goal

pub loop-sc-init : goal.loop-sc-init
loop-sc-init g c = add_start g.S.ColumnSums.kind.sums g.met.S.ColumnSums.columnwise.lawful c.args.self.w columns c.args.slot c.args.self.rows.now _ _ c.requires.carried

pub add-requires-clause-range : goal.add-requires-clause-range
add-requires-clause-range g c =
    let laws = g.met.S.ColumnSums.columnwise in
    rw (c.loop-sc.invariant.firsts.left c.loop-sc.sc (omega arith) c.loop-sc-test.true, c.loop-sc.invariant.seconds.left c.loop-sc.sc (omega arith) c.loop-sc-test.true)
    (laws.ranged.wider c.args.slot max_rows _ _ (omega (arith, c.requires.slot))
    (part-range g.S.ColumnSums.kind.sums g.S.ColumnSums.In laws.ranged c.args.self.w columns c.args.self.rows.now c.args.self.bytes c.loop-sc.sc c.loop-sc-test.true c.args.slot (omega (arith, c.requires.slot))))

pub loop-sc-preserved : goal.loop-sc-preserved
loop-sc-preserved g c =
    add_turn g.S.ColumnSums.kind.sums g.met.S.ColumnSums.columnwise.lawful c.args.self.w columns c.args.slot c.args.self.rows.now c.requires.slot
    c.loop-sc.invariant c.loop-sc-test.true c.entry-x.result c.entry-x.ensures c.add.ensures

pub returns : goal.returns
returns g c =
    add-end g.S.ColumnSums.kind.sums g.met.S.ColumnSums.columnwise.lawful c.args.self.w columns c.args.slot c.args.self.rows.now c.loop-sc.invariant c.loop-sc-test.false
