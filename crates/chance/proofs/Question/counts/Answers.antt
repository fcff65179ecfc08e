-- `chance::Question::counts` meets its contract.
use native.Mathlib.Omega.{arith}
use Rattle.chance.proofs.Tables.{none-taken, one-taken}
use Rattle.chance.proofs.Question.counts.Goals as goal

pub loop-frame-init : goal.loop-frame-init
loop-frame-init c = none-taken _ _ _ _ c.args.self.now.within _ c.empty_table-table.ensures

pub loop-frame-preserved : goal.loop-frame-preserved
loop-frame-preserved c = one-taken _ _ _ _ c.loop-frame.invariant c.args.self.now.within c.args.self.now.few _ (omega (arith, c.loop-frame-test.true)) c.table-table.ensures
