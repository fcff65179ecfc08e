-- `sliding::steps::mean_wander` meets its contract: the total is that of the columns passed, each below 2 ^ 32. Assumes nothing.
use mathlib.Core.Path.{◌≡◌, refl, ap, ◌∙◌}
use Prim.Native.Nat.{ℕ, ◌/◌}
use native.Mathlib.Omega.{arith}
use lib.ListN.{get_or}
use Rattle.window.specs.Sums.{sum_to, carried_mean}
use Rattle.window.proofs.Mean.{sum_to-more}
use Rattle.sliding.proofs.steps.mean_wander.Goals as goal

pub loop-sc-init : goal.loop-sc-init
unfolding sum_to
loop-sc-init g c = (refl, omega arith)

pub loop-sc-preserved : goal.loop-sc-preserved
loop-sc-preserved g c =
    let none = g.S.ColumnSums.kind.sums.none in
    let term : ℕ → ℕ = λ (k : ℕ). g.S.ColumnSums.term c.args.rows.w (get_or (g.S.ColumnSums.firsts c.args.carried.now) k none) (get_or (g.S.ColumnSums.seconds c.args.carried.now) k none) in
    (omega (arith, c.loop-sc.invariant.0, c.wander.ensures, sum_to-more c.loop-sc.sc term), omega (arith, c.loop-sc.invariant.1))

pub returns : goal.returns
unfolding carried_mean
returns g c =
    let none = g.S.ColumnSums.kind.sums.none in
    let term : ℕ → ℕ = λ (k : ℕ). g.S.ColumnSums.term c.args.rows.w (get_or (g.S.ColumnSums.firsts c.args.carried.now) k none) (get_or (g.S.ColumnSums.seconds c.args.carried.now) k none) in
    let all : c.loop-sc.sc ≡ c.args.count = omega (arith, c.loop-sc-test.false) in
    let mean : c.loop-sc.total / c.args.count ≡ sum_to c.args.count term / c.args.count = ap (λ (n : ℕ). n / c.args.count) (c.loop-sc.invariant.0 ∙ ap (λ (k : ℕ). sum_to k term) all) in
    omega (arith, c.min.ensures, g.met.S.ColumnSums.top, mean)
