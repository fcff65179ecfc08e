-- `dot_blocks` meets its contract: the sum so far is that of the blocks passed. Assumes nothing.
use mathlib.Core.Path.{◌≡◌}
use Prim.Native.Nat.{◌*◌}
use lib.ListN.{take}
use Rattle.num.specs.Sum.{dot_z}
use Rattle.vitals.specs.Steps.{block_len}
use Rattle.vitals.proofs.steps.correlation.dot_blocks.Given as goal

abbrev pub invariant-loop-i : goal.invariant-loop-i
invariant-loop-i l = l.sum ≡ dot_z (take (l.i * block_len) l.a) l.b
