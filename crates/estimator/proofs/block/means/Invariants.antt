-- `means` meets its contract: the first sc means are in. Assumes nothing.
use mathlib.Core.Path.{◌≡◌}
use Prim.Native.Nat.{ℕ, ◌/◌, ◌<◌}
use lib.ListN.{length, get_or}
use Rattle.window.specs.Window.{columns}
use Rattle.estimator.proofs.block.means.Given as goal

abbrev pub invariant-loop-sc : goal.invariant-loop-sc
invariant-loop-sc l =
    (length l.out ≡ columns) × ((k : ℕ) → k < l.sc → get_or l.out k 0 ≡ get_or l.acc k 0 / l.frames)
