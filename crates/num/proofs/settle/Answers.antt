-- `num::settle` meets its contract: the root is the estimate's predecessor or the number after that. Assumes nothing.
use mathlib.Core.Path.{◌≡◌}
use Prim.Native.Nat.{ℕ, ◌+◌, ◌-◌, ◌*◌, ◌≤◌, ◌<◌}
use native.Mathlib.Omega.{arith}
use Rattle.num.specs.Root.{root, Near}
use Rattle.num.proofs.Root.{root-unique}
use Rattle.num.proofs.Estimate.{near-least}
use Rattle.num.proofs.settle.Goals as goal

module _ (v e : ℕ) (pos : 0 < v) (near : Near v e) where
  one-least : 1 ≤ e
  one-least = near-least v e 1 near pos

  second-next : v < (e - 1 + 2) * (e - 1 + 2)
  second-next = let same : e - 1 + 2 ≡ e + 1 = omega (arith, one-least) in rw same near.under

-- of the two roots that are left, by the test
upper : (v r : ℕ) → v < (r + 2) * (r + 2) → 2 * r < v - r * r → r + 1 ≡ root v
upper v r high h = root-unique v (r + 1) (omega arith) (omega arith)

lower : (v r : ℕ) → r * r < v → v - r * r ≤ 2 * r → r ≡ root v
lower v r low h = root-unique v r (omega arith) (omega arith)

pub returns-then-r-v : goal.returns-then-r-v
returns-then-r-v c =
    upper c.args.v (c.args.estimate - 1) (second-next c.args.v c.args.estimate c.requires.v_nonzero c.requires.near) c.if-r-v.true

pub returns-else-r-v : goal.returns-else-r-v
returns-else-r-v c = lower c.args.v (c.args.estimate - 1) c.requires.near.over c.if-r-v.false
