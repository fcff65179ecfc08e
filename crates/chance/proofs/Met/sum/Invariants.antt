-- `chance::Met::sum` meets its contract.
use Rattle.num.proofs.Row.{Added}
use Rattle.chance.specs.Marks.{term_of, most_ways}
use Rattle.chance.proofs.Met.sum.Given as goal

abbrev pub invariant-loop-wander : goal.invariant-loop-wander
invariant-loop-wander l = Added most_ways (term_of l.self.front.question.config l.self.front.question.spacing l.self.front.frame l.self.front.behind.now l.k l.self.mark) l.self.front.question.choices.now l.sum l.wander-index
