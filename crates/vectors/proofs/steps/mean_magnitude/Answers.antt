-- `vectors::steps::mean_magnitude` meets its contract. Assumes nothing.
use lib.IntN.{nat_abs}
use Rattle.std.proofs.Common.{rules}
use Rattle.num.proofs.Nearest.{nearest-le}
use Rattle.vectors.proofs.Means.{abs-round}
use Rattle.vectors.proofs.steps.mean_magnitude.Goals as goal

pub returns : goal.returns
returns c =
    let small = nearest-le 16384 c.args.rows.w (nat_abs c.args.a) c.args.rows.some c.requires in
    rw (abs-round c.args.a c.args.rows.w) (search rules)
