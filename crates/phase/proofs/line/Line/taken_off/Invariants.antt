-- `phase::line::Line::taken_off` meets its contract: what is done stands in out, and 0 behind it. Assumes nothing.
use Rattle.phase.proofs.Walks.{Leaving}
use Rattle.phase.proofs.line.Line.taken_off.Given as goal

abbrev pub invariant-loop-k : goal.invariant-loop-k
invariant-loop-k l = Leaving l.self.slope l.self.icpt l.angles l.out l.walk.place l.walk.angle l.k
