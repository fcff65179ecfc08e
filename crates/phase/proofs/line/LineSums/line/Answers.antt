-- `phase::line::LineSums::line` meets its contract. Assumes nothing.
use Rattle.std.proofs.Common.{rules}
use Rattle.num.proofs.Abs.{quot_fits}
use Rattle.phase.specs.Line.{intercept_of}
use Rattle.phase.proofs.Lines.{intercept-at}
use Rattle.phase.proofs.line.LineSums.line.Goals as goal

pub overflow_mul-icpt-2 : goal.overflow_mul-icpt-2
overflow_mul-icpt-2 c = let f = intercept-at c.args.self c.slope-slope.result c.slope-slope.ensures.1 in search rules

pub overflow_sub-icpt : goal.overflow_sub-icpt
overflow_sub-icpt c = let f = intercept-at c.args.self c.slope-slope.result c.slope-slope.ensures.1 in search rules

pub nonzero_div-icpt : goal.nonzero_div-icpt
nonzero_div-icpt c =
    let f = intercept-at c.args.self c.slope-slope.result c.slope-slope.ensures.1 in let q = quot_fits c.args.self.n f.less in search rules

pub invariant_of-result : goal.invariant_of-result
unfolding intercept_of
invariant_of-result c =
    let f = intercept-at c.args.self c.slope-slope.result c.slope-slope.ensures.1 in let q = quot_fits c.args.self.n f.less in search rules

pub returns : goal.returns
unfolding intercept_of
returns c =
    let f = intercept-at c.args.self c.slope-slope.result c.slope-slope.ensures.1 in let q = quot_fits c.args.self.n f.less in search rules
