use mir.Facts.{to_z-of_z}
use mathlib.Core.Path.{◌≡◌, sym, ap, ◌∙◌}
use mathlib.Core.List.{List}
use Prim.Native.Nat.{ℕ, ◌+◌, ◌≤◌, ◌<◌, ◌-◌}
use native.Mathlib.Omega.{arith}
use borrow.Author.Tests.{le-leb, lt-leb}
use lib.IntN.{ℤ}
use mir.Syntax.{w32}
use mir.Val.{SFits, to_z, of_z}
use Rattle.num.specs.Lists.{first}
use Rattle.vitals.specs.Peak.{is_peak, peak_or}
use Rattle.num.proofs.First.{found, passed, over}
use Rattle.vitals.proofs.steps.summed.LagSums.first_peak.Goals as goal

-- a search over a floor is one over what a local holds of it
as-held : (s : List ℤ) (g : ℤ) (hi : ℕ) → SFits w32 g → first (is_peak s g) 2 (hi - 1) ≡ first (is_peak s (to_z w32 (of_z w32 g))) 2 (hi + 1 - 2)
as-held s g hi h =
    let e : hi + 1 - 2 ≡ hi - 1 = omega arith in
    rw e (ap (λ (z : ℤ). first (is_peak s z) 2 (hi - 1)) (sym (to_z-of_z {w = w32} {z = g} h)))

-- the search for a peak ends at one
inside : (s : List ℤ) (hi : ℕ) (floor : ℤ) (b : ℕ) {k : ℕ} → first (is_peak s floor) 2 (hi - 1) ≡ k → k ≤ hi → peak_or s hi floor b ≡ k
unfolding peak_or
inside s hi floor b {k} e h = rw (e, le-leb k hi h)

-- or past them all
past : (s : List ℤ) (hi : ℕ) (floor : ℤ) (b : ℕ) {k : ℕ} → first (is_peak s floor) 2 (hi - 1) ≡ k → hi < k → peak_or s hi floor b ≡ b
unfolding peak_or
past s hi floor b {k} e h = rw (e, lt-leb k hi h)

pub loop-lag-preserved : goal.loop-lag-preserved
loop-lag-preserved g c = (
  omega arith,
  omega arith,
  passed _ c.loop-lag.invariant.2 (omega arith) (sym c.is_peak.ensures ∙ c.if-is_peak.false),
)

pub returns-then-lag-self : goal.returns-then-lag-self
returns-then-lag-self g c = (
  sym
      (past c.args.self.now.by_lag c.args.self.now.lags.hi c.args.floor c.args.top
      (as-held c.args.self.now.by_lag c.args.floor c.args.self.now.lags.hi c.ranges.floor ∙
      over _ c.loop-lag.invariant.2 (omega arith))
      (omega arith)),
  omega arith,
  omega arith,
)

pub returns-then-is_peak : goal.returns-then-is_peak
returns-then-is_peak g c = (
  sym
      (inside c.args.self.now.by_lag c.args.self.now.lags.hi c.args.floor c.args.top
      (as-held c.args.self.now.by_lag c.args.floor c.args.self.now.lags.hi c.ranges.floor ∙
      found _ c.loop-lag.invariant.2 (omega arith) (sym c.is_peak.ensures ∙ c.if-is_peak.true))
      (omega arith)),
  omega arith,
  omega arith,
)
