-- `num::steps::put` meets its contract. The invariant of its loop: the first i bytes of `dst` are those of `src`, and the rest is as it was.
-- Assumes nothing.
use Prim.Native.Nat.{◌≤◌}
use mathlib.Core.Path.{◌≡◌}
use mathlib.Core.List.{◌++◌}
use lib.ListN.{length, take, drop}
use Rattle.num.proofs.steps.put.Given as goal

abbrev pub invariant-loop-i : goal.invariant-loop-i
invariant-loop-i l = (l.i ≤ length l.src) × ((l.dst ≡ take l.i l.src ++ drop l.i l.initial.dst) × (length l.dst ≡ length l.initial.dst))
