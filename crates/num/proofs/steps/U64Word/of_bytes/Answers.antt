-- The bytes of a u64 are the number that they hold. Assumes nothing.
use native.Mathlib.Omega.{arith}
use Rattle.num.proofs.Words.{le-from, le-past}
use Rattle.num.proofs.steps.U64Word.of_bytes.Goals as goal

pub returns : goal.returns
returns c =
    let s = c.args.bytes.now in
    omega (arith, c.from_le_bytes.ensures, le-from s 0 (omega arith), le-from s 1 (omega arith), le-from s 2 (omega arith), le-from s 3 (omega arith), le-from s 4 (omega arith), le-from s 5 (omega arith), le-from s 6 (omega arith), le-from s 7 (omega arith), le-past s 8 (omega arith))
