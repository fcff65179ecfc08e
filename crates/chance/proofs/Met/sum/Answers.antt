-- `chance::Met::sum` meets its contract.
use Rattle.num.proofs.Row.{add, all-added}
use Rattle.chance.specs.Marks.{sum_of}
use Rattle.chance.proofs.Tables.{term_small}
use Rattle.chance.proofs.Met.sum.Goals as goal

pub loop-wander-preserved : goal.loop-wander-preserved
loop-wander-preserved c =
    add c.loop-wander.invariant _ c.term-sum.ensures (rw c.term-sum.ensures (term_small _ _ _ _ _ _ _ c.args.self.now.front.whole)) c.loop-wander-test.true

pub returns : goal.returns
unfolding sum_of
returns c = all-added c.loop-wander.invariant c.loop-wander-test.false
