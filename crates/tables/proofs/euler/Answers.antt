-- `tables::euler` meets its contract: the loop has the fractions behind the k-th. Assumes nothing.
use mathlib.Core.Path.{◌≡◌, refl, ◌∙◌}
use Prim.Native.Nat.{ℕ, suc, ◌-◌, ◌≤◌, ◌<◌}
use native.Mathlib.Omega.{arith}
use Rattle.tables.specs.Tables.{fractions, deeper, euler}
use Rattle.tables.proofs.euler.Goals as goal

-- one fraction more
more : (s q k x : ℕ) → 0 < k → k ≤ fractions → x ≡ euler s q (suc k) (fractions - k) → deeper s q k x ≡ euler s q (suc (k - 1)) (fractions - (k - 1))
unfolding euler
more s q k x some h e =
    let d : fractions - (k - 1) ≡ suc (fractions - k) = omega arith in
    let p : suc (k - 1) ≡ k = omega arith in
    rw (e, d, p)

pub loop-k-init : goal.loop-k-init
unfolding euler
loop-k-init c = (omega arith, refl, omega arith)

pub loop-k-preserved : goal.loop-k-preserved
loop-k-preserved c =
    let (h, e, _) = c.loop-k.invariant in
    (omega arith, c.deeper-x.ensures.0 ∙ more c.args.s c.args.q c.loop-k.k c.loop-k.x c.loop-k-test.true h e, c.deeper-x.ensures.1)
