-- `csi::amplitude::quarters` meets its contract. Assumes nothing.
use Prim.Native.Nat.{◌+◌, ◌*◌}
use native.Mathlib.Omega.{arith}
use Rattle.num.proofs.Root.{root-unique}
use Rattle.csi.proofs.amplitude.quarters.Goals as goal

pub returns-then-r-rest : goal.returns-then-r-rest
returns-then-r-rest c =
    let r = c.args.r in let e = c.args.rest in (root-unique (16 * (r * r + e)) (4 * r + 3) (omega arith) (omega arith), omega arith)

pub returns-then-r-rest-2 : goal.returns-then-r-rest-2
returns-then-r-rest-2 c =
    let r = c.args.r in let e = c.args.rest in (root-unique (16 * (r * r + e)) (4 * r + 2) (omega arith) (omega arith), omega arith)

pub returns-then-r-rest-3 : goal.returns-then-r-rest-3
returns-then-r-rest-3 c =
    let r = c.args.r in let e = c.args.rest in (root-unique (16 * (r * r + e)) (4 * r + 1) (omega arith) (omega arith), omega arith)

pub returns-else-r-rest-3 : goal.returns-else-r-rest-3
returns-else-r-rest-3 c =
    let r = c.args.r in let e = c.args.rest in (root-unique (16 * (r * r + e)) (4 * r + 0) (omega arith) (omega arith), omega arith)
