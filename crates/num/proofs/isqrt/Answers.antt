-- `num::isqrt` meets its contract: an estimate for the shifted word, shifted down, is one for the word. Assumes nothing.
use Prim.Native.Nat.{ℕ, ◌^◌, ◌<◌}
use native.Mathlib.Omega.{arith}
use Rattle.num.proofs.Root.{root-unique, root_below}
use Rattle.num.proofs.Scale.{scaled-least, near-unscaled}
use Rattle.num.proofs.isqrt.Goals as goal

pub returns-then-v-eq0 : goal.returns-then-v-eq0
returns-then-v-eq0 c = root-unique c.args.v 0 (omega arith) (omega arith)

pub near-requires : goal.near-requires
near-requires c = omega (arith, scaled-least 32 c.args.v (omega arith) c.ranges.v.fits)

pub settle-requires : goal.settle-requires
settle-requires c =
    let v : ℕ = c.args.v in
    let pos : 0 < v = omega arith in
    record { v_nonzero = pos; near = near-unscaled 32 v pos c.ranges.v.fits c.near.result c.near.ensures }

pub overflow_cast-result : goal.overflow_cast-result
overflow_cast-result c = omega (arith, c.settle.ensures, root_below c.args.v (2 ^ 16) (omega arith))
