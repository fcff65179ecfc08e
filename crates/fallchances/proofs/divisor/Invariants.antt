-- It divides until nothing is left.
use Rattle.std.proofs.Common.{◌<◌}
use Rattle.fallchances.proofs.divisor.Given as goal

abbrev pub invariant-loop-y : goal.invariant-loop-y
invariant-loop-y l = 0 < l.x

abbrev pub decreases-loop-y : goal.decreases-loop-y
decreases-loop-y l = l.y
