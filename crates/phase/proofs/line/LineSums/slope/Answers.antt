-- `phase::line::LineSums::slope` meets its contract. Assumes nothing.
use Rattle.std.proofs.Common.{rules}
use Rattle.num.proofs.Abs.{quot_fits}
use Rattle.phase.specs.Line.{denominator, slope_of}
use Rattle.phase.proofs.Lines.{slope-of}
use Rattle.phase.proofs.Sizes.{denominator-pos}
use Rattle.phase.proofs.line.LineSums.slope.Goals as goal

pub overflow_mul-result-2 : goal.overflow_mul-result-2
overflow_mul-result-2 c = let f = slope-of c.args.self in search rules

pub overflow_sub-result : goal.overflow_sub-result
overflow_sub-result c = let f = slope-of c.args.self in search rules

pub overflow_mul-result-3 : goal.overflow_mul-result-3
overflow_mul-result-3 c = let f = slope-of c.args.self in search rules

pub nonzero_div-result : goal.nonzero_div-result
nonzero_div-result c =
    let f = slope-of c.args.self in
    let d = denominator-pos c.args.self.n c.args.self.enough c.args.self.few in
    let q = quot_fits (denominator c.args.self.n) f.scaled in search rules

pub returns : goal.returns
unfolding slope_of
returns c =
    let f = slope-of c.args.self in
    let q = quot_fits (denominator c.args.self.n) f.scaled in search rules
