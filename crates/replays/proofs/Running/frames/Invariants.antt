-- Every frame is taken off the bytes that are left.
use Rattle.std.proofs.Common.{length}
use Rattle.replays.proofs.Running.frames.Given as goal

abbrev pub invariant-loop-head : goal.invariant-loop-head
invariant-loop-head g l = Unit {0}

abbrev pub decreases-loop-head : goal.decreases-loop-head
decreases-loop-head g l = length l.left
