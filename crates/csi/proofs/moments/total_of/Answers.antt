-- `csi::moments::total_of` meets its contract. Assumes nothing.
use native.Mathlib.Omega.{arith}
use Rattle.std.proofs.lemmas.Grind.{common_steps}
use Rattle.num.proofs.Sum.{total-le}
use Rattle.csi.proofs.Sums.{sum_total}
use Rattle.csi.proofs.moments.total_of.Goals as goal

pub returns-clause-bound : goal.returns-clause-bound
returns-clause-bound c =
    let l = total-le 65535 c.args.amplitudes.now (λ k h. omega (arith, c.type_inv.amplitudes k)) in
    grind (arith, common_steps, sum_total)
