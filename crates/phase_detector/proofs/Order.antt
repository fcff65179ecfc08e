-- A window of angles has no order: whatever a detector saw before, the wander that it tells is the same for every order of its last w frames.
-- Assumes nothing.
use Rattle.window.proofs.Order.{sums-have-no-order, mean-has-no-order}
use Rattle.detector.specs.Order.{NoOrder}
use Rattle.detector.proofs.Order.{no-order-by}
use Rattle.vectors.specs.Vector.{column_ppm}
use Rattle.phase_detector.specs.Wander.{angles}
use Rattle.phase_detector.specs.Phase.{phase_kind}
use Rattle.phase_detector.specs.Laws.{lawful}

pub no-order : NoOrder phase_kind
no-order = no-order-by phase_kind (mean-has-no-order angles (sums-have-no-order angles lawful) column_ppm)
