-- `sum_columns` meets its contract: the first sc columns are in the sums. Assumes nothing.
use mathlib.Core.Path.{◌≡◌, ap, ◌∙◌, subst}
use mathlib.Core.List.{List}
use Prim.Native.Nat.{◌+◌}
use native.Mathlib.Omega.{arith}
use lib.ListN.{length, length-replicate}
use lib.IntN.{ℤ, pos}
use Rattle.vitals.specs.Series.{at, prepared}
use Rattle.vitals.specs.Correlation.{curve}
use Rattle.vitals.specs.Steps.{Joined}
use Rattle.vitals.specs.declared.band.Lags.{Lags}
use Rattle.estimator.specs.Estimate.{series}
use Rattle.estimator.specs.Steps.{blocks_in}
use Rattle.estimator.proofs.Summing.{so_far, begun, turn, finish, all-columns}
use Rattle.estimator.proofs.column.sum_columns.Goals as goal

pub loop-sc-init : goal.loop-sc-init
loop-sc-init c =
    let n = c.args.view.n in
    (omega arith, c.new-summed.ensures.0, ap length c.zeros-a.ensures ∙ length-replicate {A = ℤ} n (pos 0), ap length c.zeros-b.ensures ∙ length-replicate {A = ℤ} n (pos 0), begun _ _ _ c.new-summed.result.used c.new-summed.result.by_lag c.new-summed.ensures.1 c.new-summed.result.small)

pub loop-sc-preserved : goal.loop-sc-preserved
loop-sc-preserved c =
    let s = c.loop-sc.summed in let t = c.add_column.new.summed in let x = prepared c.args.m (series (blocks_in c.args.view) c.loop-sc.sc) in
    let joined = subst (λ (l : Lags). Joined x (l.hi + 1) s.used s.by_lag t.used t.by_lag) c.loop-sc.invariant.1 c.add_column.ensures.joined.0 in
    (omega arith, c.add_column.ensures.joined.1 ∙ c.loop-sc.invariant.1, c.add_column.ensures.long.0, c.add_column.ensures.long.1, turn _ _ _ c.loop-sc.sc s.used t.used s.by_lag t.by_lag c.loop-sc.invariant.4 joined)

pub returns : goal.returns
returns c =
    let v = c.args.view in let w = blocks_in v in let s = c.loop-sc.summed in let i = c.loop-sc.invariant.4 in
    let e : c.loop-sc.sc ≡ v.count = omega (arith, c.loop-sc-test.false) in
    let all = ap (so_far c.args.m w) e ∙ all-columns v.n v.next v.count v.rows.now v.whole (omega (arith, v.inside)) v.narrow c.args.m in record {
      count = (c.loop-sc.invariant.1, i.count ∙ ap length all);
      sums = λ k h. finish c.args.m w c.args.lags.hi c.loop-sc.sc s.used s.by_lag i k h ∙ ap (λ (xs : List (List ℤ)). at (curve xs c.args.lags.hi) k) all;
    }
