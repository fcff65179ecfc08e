-- `estimate` meets its contract. Assumes nothing.
use mathlib.Core.Path.{◌≡◌, ap, ◌∙◌}
use Prim.Native.Nat.{ℕ, ◌+◌, ◌-◌, ◌≤◌, min}
use native.Mathlib.Omega.{arith}
use lib.ListN.{length}
use Rattle.vitals.specs.Band.{lags_of}
use Rattle.vitals.specs.declared.band.Lags.{Lags}
use Rattle.vitals.proofs.Facts.{usable-facts}
use Rattle.estimator.specs.Steps.{blocks_in}
use Rattle.estimator.specs.Estimate.{lowest, longest, rhythm_of, columns_of}
use Rattle.estimator.proofs.Whole.{estimate-none, estimate-wide, estimate-some, full-long}
use Rattle.estimator.proofs.estimate.estimate.Goals as goal
use Rattle.estimator.proofs.estimate.estimate.Goals.{then-hi-lo-via-then-hi-lo, then-hi-lo-via-else-hi-lo+then-hi-gt-MAX_LAGS}

pub returns-then-hi-lo : goal.returns-then-hi-lo
returns-then-hi-lo c =
    let w = blocks_in c.args.view in
    let long : length w ≡ c.args.view.n = full-long c.args.view.n c.args.view.next c.args.view.count c.args.view.rows.now in
    let e : c.lags-lags.result ≡ lags_of c.args.config.band c.args.config.rate_hz = c.lags-lags.ensures in
    let lo : c.lags-lags.result.lo ≡ lowest c.args.config = ap (λ (l : Lags). l.lo) e in
    let hi : c.min-hi.result ≡ longest c.args.config c.args.view.n = c.min-hi.ensures ∙ ap (λ (l : Lags). min l.hi (c.args.view.n - 2)) e in
    c.empty.ensures ∙ elim c.then-hi-lo.branch [
      | then-hi-lo-via-then-hi-lo w1 ↦ estimate-none c.args.config c.args.time c.args.view.n w long (rw (← hi, ← lo) w1.if-hi-lo.true)
      | then-hi-lo-via-else-hi-lo+then-hi-gt-MAX_LAGS w1 ↦ estimate-wide c.args.config c.args.time c.args.view.n w long (rw (← hi, ← lo) w1.if-hi-lo.false) (rw (← hi) w1.if-hi-gt-MAX_LAGS.true)
    ]

pub over_columns-requires : goal.over_columns-requires
over_columns-requires c =
    let e : c.lags-lags.result ≡ lags_of c.args.config.band c.args.config.rate_hz = c.lags-lags.ensures in
    let two : 2 ≤ c.lags-lags.result.lo = rw e (omega arith) in
    let fast = (usable-facts c.args.config.band c.args.config.rate_hz c.requires.1).fast in
    let wide : c.min-hi.result + 1 ≤ 128 = c.if-hi-gt-MAX_LAGS.false in
    (omega arith, omega arith, omega arith, fast)

pub returns : goal.returns
returns c =
    let w = blocks_in c.args.view in
    let long : length w ≡ c.args.view.n = full-long c.args.view.n c.args.view.next c.args.view.count c.args.view.rows.now in
    let e : c.lags-lags.result ≡ lags_of c.args.config.band c.args.config.rate_hz = c.lags-lags.ensures in
    let lo : c.lags-lags.result.lo ≡ lowest c.args.config = ap (λ (l : Lags). l.lo) e in
    let hi : c.min-hi.result ≡ longest c.args.config c.args.view.n = c.min-hi.ensures ∙ ap (λ (l : Lags). min l.hi (c.args.view.n - 2)) e in
    let h = c.min-hi.result in c.over_columns.ensures
    ∙ ap (λ (l : ℕ). rhythm_of c.args.config c.args.time l h (columns_of c.args.config.highpass w)) lo
    ∙ ap (λ (h : ℕ). rhythm_of c.args.config c.args.time (lowest c.args.config) h (columns_of c.args.config.highpass w)) hi
    ∙ estimate-some c.args.config c.args.time c.args.view.n w long (rw (← hi, ← lo) c.if-hi-lo.false) (rw (← hi) c.if-hi-gt-MAX_LAGS.false)
