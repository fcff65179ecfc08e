-- `LagSums::new` meets its contract. Assumes nothing.
use native.Mathlib.Omega.{arith}
use Rattle.vitals.proofs.Padded.{zero-at}
use Rattle.vitals.proofs.steps.summed.LagSums.new.Goals as goal

pub invariant_of-result-clause-small : goal.invariant_of-result-clause-small
invariant_of-result-clause-small g c = λ k. rw (zero-at g.row.ROOM k) (omega arith)
