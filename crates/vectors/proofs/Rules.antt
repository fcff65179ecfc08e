-- The sine table's rules, each by one test over the whole table (`num`'s `Rules`). Assumes nothing.
use Prim.Native.Nat.{ℕ, ◌≤◌, ◌<◌}
use lib.ListN.{get_or}
use Rattle.num.proofs.Rules.{ascends-by, ascends-le, near_by}
use Rattle.vectors.specs.Rules.{SinesAscend, OppositeSquares}
use Rattle.vectors.specs.Tables.{sin_quarter}

pub sin-ascends : SinesAscend
unfolding sin_quarter
sin-ascends = ascends-by _ _ sin_quarter tt

pub sin-squares : OppositeSquares
unfolding sin_quarter
sin-squares = near_by _ _ _ sin_quarter tt

pub sin-le : (i : ℕ) → i < 257 → get_or sin_quarter i 0 ≤ 16384
sin-le i h = ascends-le sin-ascends i h
