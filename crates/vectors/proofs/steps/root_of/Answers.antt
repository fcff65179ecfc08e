-- `vectors::steps::root_of` meets its contract. Assumes nothing.
use Prim.Native.Nat.{◌*◌}
use native.Mathlib.Omega.{arith}
use Rattle.num.proofs.Root.{root_below}
use Rattle.vectors.proofs.steps.root_of.Goals as goal

pub overflow_add-result : goal.overflow_add-result
overflow_add-result c = omega (arith, c.isqrt.ensures, root_below (4 * c.args.sq) 65536 (omega (arith, c.requires)))
