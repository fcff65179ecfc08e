-- `phase::line::Line::residual` meets its contract. Assumes nothing.
use Rattle.std.proofs.Common.{rules}
use Rattle.phase.specs.Line.{residual_of}
use Rattle.phase.proofs.Lines.{residual_at}
use Rattle.phase.proofs.line.Line.residual.Goals as goal

pub overflow_sub-u-2 : goal.overflow_sub-u-2
overflow_sub-u-2 c = let f = residual_at c.args.self c.args.k c.args.u c.requires.0 c.requires.1 in search rules

pub returns : goal.returns
unfolding residual_of
returns c = let f = residual_at c.args.self c.args.k c.args.u c.requires.0 c.requires.1 in search rules
