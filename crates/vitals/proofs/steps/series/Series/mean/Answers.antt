-- `mean` meets its contract. Assumes nothing.
use mathlib.Core.Path.{◌≡◌, refl, ◌∙◌}
use Prim.Native.Nat.{◌*◌, ◌-◌, ◌≤◌}
use native.Mathlib.Omega.{arith}
use borrow.Author.Rules.{sfits_of}
use lib.ListN.{length}
use lib.IntN.{pos, nat_abs}
use lib.Seq.{take_all}
use lib.Signed.{quot_z}
use mir.Syntax.{w32}
use mir.Val.{to_z, of_z}
use mir.Facts.{to_z-of_z, to_z_pos}
use Rattle.num.specs.Sum.{sum_z}
use Rattle.num.proofs.Abs.{abs-quot-le}
use Rattle.num.proofs.Read.{read-abs}
use Rattle.vitals.proofs.Windows.{slice-size}
use Rattle.vitals.proofs.steps.series.Series.mean.Goals as goal

value : (c : goal.After-sum-sum) → to_z w32 (of_z w32 c.sum-sum.result) ≡ sum_z c.args.self.samples.now
value c = to_z-of_z {w = w32} (sfits_of c.sum-sum.type_inv) ∙ c.sum-sum.ensures

size : (c : goal.After-sum-sum) → nat_abs (quot_z (sum_z c.args.self.samples.now) (pos (length c.args.self.samples.now))) ≤ 16777216
size c =
    let x = c.args.self.samples.now in let s : nat_abs (sum_z x) ≤ 32768 * (length x - 0) = rw (take_all (length x) x (omega arith)) at (slice-size x 0 (length x) (omega arith) c.args.self.sized) in
    omega (arith, abs-quot-le (sum_z x) (pos (length x)))

pub returns : goal.returns
returns c =
    let x = c.args.self.samples.now in rw (value c, to_z_pos w32 {n = length x} (omega arith), read-abs w32 (quot_z (sum_z x) (pos (length x))) (omega (arith, size c))) (refl, omega (arith, size c))
