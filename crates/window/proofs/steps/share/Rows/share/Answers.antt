-- `window::steps::share::Rows::share` meets its contract: the product stands for the division (`Reciprocal` of num). Assumes nothing.
use Prim.Native.Nat.{ℕ, ◌+◌, ◌*◌, ◌≤◌, ◌<◌}
use native.Mathlib.Nat.{mul-le-mul}
use native.Mathlib.Omega.{arith}
use Rattle.num.proofs.Ratio.{recip-below, recip-div}
use Rattle.window.specs.Window.{max_rows, most_per_row}
use Rattle.window.proofs.steps.share.Rows.share.Goals as goal

small-enough : (w : ℕ) → w ≤ max_rows → (most_per_row + 1) * w * w < 35184372088832
small-enough w h =
    let one : (most_per_row + 1) * w * w ≤ (most_per_row + 1) * max_rows * max_rows = mul-le-mul (mul-le-mul {n₁ = most_per_row + 1} {n₂ = most_per_row + 1} (omega arith) h) h in
    omega arith

pub overflow_mul-result : goal.overflow_mul-result
overflow_mul-result c =
    let w : ℕ = c.args.self.w in
    rw c.args.self.is_reciprocal (omega (arith, recip-below 35184372088832 w most_per_row c.args.x c.args.self.some (small-enough w c.args.self.few) c.requires))

pub returns : goal.returns
returns c =
    let w : ℕ = c.args.self.w in
    rw c.args.self.is_reciprocal (recip-div 35184372088832 w most_per_row c.args.x c.args.self.some (small-enough w c.args.self.few) c.requires)
