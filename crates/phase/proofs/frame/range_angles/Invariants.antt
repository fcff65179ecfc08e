-- `phase::frame::range_angles` meets its contract: the first k are put. Assumes nothing.
use Rattle.std.proofs.Common.{◌≡◌, ℕ, ◌+◌, ◌<◌, pos, slice_index_or}
use Rattle.phase.specs.Angle.{entry_angle}
use Rattle.phase.proofs.frame.range_angles.Given as goal

abbrev pub invariant-loop-k : goal.invariant-loop-k
invariant-loop-k l = (j : ℕ) → j < l.k → slice_index_or l.out j (pos 0) ≡ entry_angle l.iq (l.start + j)
