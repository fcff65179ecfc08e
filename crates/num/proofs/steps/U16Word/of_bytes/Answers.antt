-- The bytes of a u16 are the number that they hold. Assumes nothing.
use native.Mathlib.Omega.{arith}
use Rattle.num.proofs.Words.{le-from, le-past}
use Rattle.num.proofs.steps.U16Word.of_bytes.Goals as goal

pub returns : goal.returns
returns c =
    let s = c.args.bytes.now in
    omega (arith, c.from_le_bytes.ensures, le-from s 0 (omega arith), le-from s 1 (omega arith), le-past s 2 (omega arith))
