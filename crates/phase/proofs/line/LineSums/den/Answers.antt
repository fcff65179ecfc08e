-- `phase::line::LineSums::den` meets its contract: each product is in n alone. Assumes nothing.
use native.Mathlib.Omega.{arith}
use mir.Syntax.{w64}
use mir.Facts.{to_z_pos}
use Rattle.phase.specs.Line.{sum_k, sum_kk, denominator}
use Rattle.phase.proofs.Sizes.{terms-le, denominator-le}
use Rattle.phase.proofs.line.LineSums.den.Goals as goal

pub overflow_sub-result : goal.overflow_sub-result
unfolding sum_k sum_kk
overflow_sub-result c = (terms-le c.args.self.n c.args.self.few).1

pub returns : goal.returns
unfolding denominator sum_k sum_kk
returns c = to_z_pos w64 (omega (arith, denominator-le c.args.self.n c.args.self.few))
