-- `lower` meets its contract: each sample passed is less the mean. Assumes nothing.
use mathlib.Core.Path.{◌≡◌}
use Prim.Native.Nat.{ℕ, ◌≤◌, ◌<◌}
use lib.ListN.{length}
use lib.IntN.{◌-ℤ◌}
use Rattle.vitals.specs.Series.{at, clamp16}
use Rattle.vitals.proofs.steps.series.lower.Given as goal

abbrev pub invariant-loop-v : goal.invariant-loop-v
invariant-loop-v l =
    (length l.x ≡ length l.fn.x) × ((k : ℕ) → k < l.v-index → at l.x k ≡ clamp16 (at l.fn.x k -ℤ l.mean)) × ((k : ℕ) → l.v-index ≤ k → at l.x k ≡ at l.fn.x k)
