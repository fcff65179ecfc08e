-- `read_slots` meets its contract: the first k entries are in. Assumes nothing.
use mathlib.Core.Path.{◌≡◌}
use Prim.Native.Nat.{ℕ, ◌+◌, ◌-◌, ◌≤◌, ◌<◌}
use lib.ListN.{length}
use Rattle.vitals.specs.Series as samples
use Rattle.estimator.specs.Steps.{entry_of}
use Rattle.estimator.proofs.column.read_slots.Given as goal

abbrev pub invariant-loop-k : goal.invariant-loop-k
invariant-loop-k l =
    (l.k ≤ l.many) × (length l.out ≡ length l.initial.out) × ((j : ℕ) → j < l.k → samples.at l.out (l.at + j) ≡ entry_of l.rows (l.first + j) l.sc) ×
    ((j : ℕ) → j < l.at → samples.at l.out j ≡ samples.at l.initial.out j)

abbrev pub decreases-loop-k : goal.decreases-loop-k
decreases-loop-k l = l.many - l.k
