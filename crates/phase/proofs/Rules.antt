-- The arctangent table's order, by one test over the whole table (`num`'s `Rules`). Assumes nothing.
use Prim.Native.Nat.{ℕ, ◌≤◌, ◌<◌}
use lib.ListN.{get_or}
use Rattle.num.proofs.Rules.{ascends-by, ascends-le}
use Rattle.phase.specs.Rules.{ArctangentsAscend}
use Rattle.phase.specs.Tables.{atan_octant, entries, eighth_turn}

pub atan-ascends : ArctangentsAscend
unfolding atan_octant
atan-ascends = ascends-by _ _ atan_octant tt

pub atan_le : (i : ℕ) → i < entries → get_or atan_octant i 0 ≤ eighth_turn
atan_le i h = ascends-le atan-ascends i h
