-- `chance::Question::counts` meets its contract.
use Rattle.chance.proofs.Tables.{Taken}
use Rattle.chance.proofs.Question.counts.Given as goal

abbrev pub invariant-loop-frame : goal.invariant-loop-frame
invariant-loop-frame l = Taken l.self.config l.self.spacing l.self.choices.now l.self.frames l.table l.frame
