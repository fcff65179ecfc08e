-- `LagSums::add_lags` meets its contract: the lags below `lag` are done, those from it on are as they were. Assumes nothing.
use mathlib.Core.Path.{◌≡◌, ◌∙◌}
use Prim.Native.Nat.{ℕ, ◌*◌, ◌≤◌}
use native.Mathlib.Omega.{arith}
use lib.Seq.{get_or-set_other}
use lib.IntN.{ℤ, pos, nat_abs, ◌+ℤ◌}
use mir.Syntax.{w32}
use mir.Val.{to_z, of_z}
use Rattle.num.proofs.Abs.{abs-add}
use Rattle.num.proofs.Each.{each_set}
use Rattle.num.proofs.Read.{read-abs}
use Rattle.num.proofs.Stored.{one_more}
use Rattle.vitals.specs.Series.{at}
use Rattle.vitals.specs.Correlation.{corr_of}
use Rattle.vitals.specs.Steps.{most_summed}
use Rattle.vitals.proofs.Lagged.{corr-size}
use Rattle.vitals.proofs.steps.summed.LagSums.add_lags.Goals as goal

-- the sum a, which is b, and the correlation r, which is x, as they are stored
stored : (a b r x : ℤ) → a ≡ b → r ≡ x → nat_abs b ≤ most_summed → nat_abs x ≤ 2000 → to_z w32 (of_z w32 (to_z w32 (of_z w32 a) +ℤ to_z w32 (of_z w32 r))) ≡ b +ℤ x
stored a b r x e f h l =
    rw (e, f, read-abs w32 b (omega (arith, h)), read-abs w32 x (omega (arith, l))) (read-abs w32 (b +ℤ x) (omega (arith, abs-add b x, h, l)))

pub invariant_of-self-in-loop-lag-clause-small : goal.invariant_of-self-in-loop-lag-clause-small
invariant_of-self-in-loop-lag-clause-small g c =
    let k = c.loop-lag.lag in let s = c.args.self.now in let x = corr_of c.args.series.now k in
    let size = corr-size c.args.series.now k in
    each_set (λ (z : ℤ). nat_abs z ≤ 2000 * c.loop-lag.self.used) c.loop-lag.self.by_lag k _ (pos 0)
    (rw (stored (at c.loop-lag.self.by_lag k) (at s.by_lag k) c.correlation.result x (c.loop-lag.invariant.3 k (omega arith)) c.correlation.ensures.0 (omega (arith, s.small k, s.few)) size)
    (omega (arith, abs-add (at s.by_lag k) x, s.small k, size, c.loop-lag.invariant.1)))
    c.loop-lag.self.small

pub loop-lag-preserved : goal.loop-lag-preserved
loop-lag-preserved g c =
    let k = c.loop-lag.lag in let s = c.args.self.now in let x = corr_of c.args.series.now k in (
      c.loop-lag.invariant.0,
      c.loop-lag.invariant.1,
      one_more (λ (k : ℕ) (z : ℤ). 1 ≤ k → z ≡ at s.by_lag k +ℤ corr_of c.args.series.now k) c.loop-lag.self.by_lag k _ (pos 0) (omega arith) c.loop-lag.invariant.2
          (λ _. stored (at c.loop-lag.self.by_lag k) (at s.by_lag k) c.correlation.result x (c.loop-lag.invariant.3 k (omega arith)) c.correlation.ensures.0 (omega (arith, s.small k, s.few)) (corr-size c.args.series.now k)),
      λ j h. get_or-set_other c.loop-lag.self.by_lag k j _ (pos 0) (λ (e : j ≡ k). omega arith) ∙ c.loop-lag.invariant.3 j (omega arith),
      get_or-set_other c.loop-lag.self.by_lag k 0 _ (pos 0) (λ e. omega arith) ∙ c.loop-lag.invariant.4,
    )
