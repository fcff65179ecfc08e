-- `phase_detector::steps::added` meets its contract. Assumes nothing.
use native.Mathlib.Omega.{arith}
use Rattle.num.proofs.Abs.{add-fits}
use Rattle.vectors.specs.Vector.{cos_at, sin_at}
use Rattle.vectors.proofs.Sizes.{cos-le, sine-le}
use Rattle.phase_detector.proofs.steps.added.Goals as goal

pub add-requires : goal.add-requires
add-requires c =
    rw (c.unit_vector.ensures.0, c.unit_vector.ensures.1)
    (add-fits (cos_at c.args.x) c.args.sums.cos (omega (arith, cos-le c.args.x, c.requires)), add-fits (sin_at c.args.x) c.args.sums.sin (omega (arith, sine-le c.args.x, c.requires)))
