-- `over_columns` meets its contract. Assumes nothing.
use mathlib.Core.Path.{sym, ap, ◌∙◌}
use Prim.Native.Nat.{ℕ}
use Rattle.vitals.specs.Correlation.{curve}
use Rattle.vitals.specs.Peak.{best_lag}
use Rattle.vitals.specs.declared.band.Lags.{Lags}
use Rattle.estimator.specs.Steps.{blocks_in}
use Rattle.estimator.specs.Estimate.{columns_of, read_at}
use Rattle.estimator.proofs.Whole.{read-same, rhythm-none, rhythm-some}
use Rattle.estimator.proofs.estimate.over_columns.Goals as goal

pub returns-then-summed-eq0 : goal.returns-then-summed-eq0
returns-then-summed-eq0 c =
    let xs = columns_of c.args.config.highpass (blocks_in c.args.view) in
    c.empty.ensures ∙ rhythm-none c.args.config c.args.time c.args.lags.lo c.args.lags.hi xs (sym c.sum_columns-summed.ensures.count.1 ∙ c.if-summed-eq0.true)

pub returns : goal.returns
returns c =
    let xs = columns_of c.args.config.highpass (blocks_in c.args.view) in let s = c.sum_columns-summed.result in let l = c.args.lags in
    let count = c.sum_columns-summed.ensures.count in
    c.read_off.ensures
    ∙ ap (λ (l : Lags). read_at c.args.config c.args.time l.lo l.hi s.used s.by_lag (best_lag s.by_lag l.hi)) count.0
    ∙ read-same c.args.config c.args.time l.lo l.hi s.used s.by_lag (curve xs l.hi) c.requires.0 c.sum_columns-summed.ensures.sums
    ∙ ap (λ (u : ℕ). read_at c.args.config c.args.time l.lo l.hi u (curve xs l.hi) (best_lag (curve xs l.hi) l.hi)) count.1
    ∙ rhythm-some c.args.config c.args.time l.lo l.hi xs (λ e. c.if-summed-eq0.false (count.1 ∙ e))
