-- `num::dot_i16` meets its contract: the sum so far and that of what is left make the whole. Assumes nothing.
use mathlib.Core.Path.{◌≡◌}
use mathlib.Core.List.{List}
use Prim.Native.Nat.{ℕ, ◌+◌, ◌*◌, ◌^◌, ◌≤◌}
use lib.IntN.{ℤ, nat_abs, ◌+ℤ◌}
use lib.ListN.{length, take}
use Rattle.num.specs.Sum.{dot_z}
use Rattle.num.proofs.dot_i16.Given as goal

-- of n products, those of the elements in front of `us` and `vs` are summed up
pub record Summed (xs ys : List ℤ) (n : ℕ) (sum : ℤ) (us vs : List ℤ) : Type 0 where
  pub split : dot_z (take n xs) ys ≡ sum +ℤ dot_z us vs
  pub small : nat_abs sum + 2 ^ 30 * length us ≤ 2 ^ 30 * n

abbrev pub invariant-loop-x : goal.invariant-loop-x
invariant-loop-x l = Summed l.a l.b l.n l.sum l.x-iterator.a.rest.now l.x-iterator.b.rest.now
