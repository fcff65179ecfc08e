-- `tables::steps::fill` meets its contract. Assumes nothing.
use mathlib.Core.Path.{◌≡◌}
use Prim.Native.Nat.{ℕ, ◌-◌, ◌<◌}
use lib.ListN.{length, get_or}
use Rattle.tables.proofs.steps.fill.Given as goal

abbrev pub invariant-loop-i : goal.invariant-loop-i
invariant-loop-i g l = (length l.out ≡ g.row.N) × ((k : ℕ) → k < l.i → goal.F-post g l.entry_at (g.row.N - 1) k (get_or l.out k 0))
