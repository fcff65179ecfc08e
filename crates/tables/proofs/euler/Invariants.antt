-- `tables::euler` meets its contract: the loop has the fractions behind the k-th. Assumes nothing.
use mathlib.Core.Path.{◌≡◌}
use Prim.Native.Nat.{suc, ◌-◌, ◌*◌, ◌≤◌}
use Rattle.tables.specs.Tables.{radian, fractions, euler}
use Rattle.tables.proofs.euler.Given as goal

abbrev pub invariant-loop-k : goal.invariant-loop-k
invariant-loop-k l = (l.k ≤ fractions) × (l.x ≡ euler l.s l.q (suc l.k) (fractions - l.k)) × (l.x ≤ 2 * radian)
