-- `Padded::zeros` meets its contract. Assumes nothing.
use native.Mathlib.Omega.{arith}
use lib.IntN.{ℤ, pos}
use Rattle.num.proofs.Lists.{take-replicate}
use Rattle.vitals.proofs.Padded.{zero-at}
use Rattle.vitals.proofs.steps.padded.Padded.zeros.Goals as goal

pub invariant_of-result : goal.invariant_of-result
invariant_of-result c = (c.requires, λ k h. zero-at 576 k, λ k. rw (zero-at 576 k) (omega arith))

pub returns : goal.returns
returns c = take-replicate {A = ℤ} (pos 0) c.args.n 576 (omega arith)
