-- `tables::steps::fill` meets its contract. Assumes nothing.
use mathlib.Core.Path.{◌∙◌}
use Prim.Native.Nat.{ℕ, ◌-◌, ◌<◌}
use native.Mathlib.Omega.{arith}
use lib.ListN.{length, length-set}
use Rattle.num.proofs.Stored.{one_more}
use Rattle.tables.proofs.steps.fill.Goals as goal

pub loop-i-preserved : goal.loop-i-preserved
loop-i-preserved g c =
    let (long, each) = c.loop-i.invariant in
    let inside : c.loop-i.i < length c.loop-i.out = omega (arith, long, c.loop-i-test.true) in
    (length-set c.loop-i.out c.loop-i.i c.entry_at.result ∙ long, one_more (λ (k r : ℕ). goal.F-post g c.args.entry_at (g.row.N - 1) k r) c.loop-i.out c.loop-i.i c.entry_at.result 0 inside each c.entry_at.ensures)
