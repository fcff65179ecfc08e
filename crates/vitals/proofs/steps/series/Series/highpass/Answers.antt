-- `highpass` meets its contract: the window is that around the next sample, and each sample passed is less the mean of its own. Assumes nothing.
use mathlib.Core.Path.{◌≡◌, ap, ◌∙◌, subst}
use mathlib.Core.List.{List}
use Prim.Native.Nat.{ℕ, ◌+◌}
use native.Mathlib.Omega.{arith}
use borrow.Author.Rules.{sfits_of, rules}
use lib.ListN.{length, length-set}
use lib.IntN.{ℤ, pos, ◌-ℤ◌}
use mir.Syntax.{w16, w32}
use mir.Val.{to_z, of_z}
use mir.Facts.{to_z-of_z}
use Rattle.num.proofs.Lists.{built}
use Rattle.num.proofs.Read.{read-abs}
use Rattle.num.proofs.Stored.{one_more}
use Rattle.vitals.specs.Series.{at, clamp16, mean_of, half_of, around, highpassed}
use Rattle.vitals.specs.Steps.{Slid, Around}
use Rattle.vitals.specs.declared.steps.series.Series.{Series}
use Rattle.vitals.specs.declared.steps.series.Window.{Window}
use Rattle.vitals.proofs.Windows.{window_size, room, around-sum, around-long}
use Rattle.vitals.proofs.steps.series.Series.highpass.Goals as goal

-- a window's sum, as the code has it
held : (w : Window) → to_z w32 (of_z w32 w.sum) ≡ w.sum
held w = read-abs w32 w.sum (omega (arith, room w.series.samples.now w.lo w.hi w.sum w.slid w.series.few w.series.sized))

pub mean_in-requires : goal.mean_in-requires
mean_in-requires c =
    let w = c.loop-i.w in rw (c.or_by-d.ensures, held w) (window_size w.series.samples.now w.lo w.hi w.sum w.slid w.series.few w.series.sized)

pub loop-i-preserved : goal.loop-i-preserved
loop-i-preserved c =
    let w = c.loop-i.w in let x = c.args.self.samples.now in let half = c.half_of-half.result in let i = c.loop-i.i in
    let same : w.series.samples.now ≡ x = ap (λ (s : Series). s.samples.now) c.loop-i.invariant.2 in
    let slid = subst (λ (l : List ℤ). Slid l w.lo w.hi w.sum) same w.slid in
    let e : c.off.result ≡ clamp16 (at x i -ℤ to_z w32 (of_z w32 c.mean_in.result)) = c.off.ensures ∙ search rules in (
      c.loop-i.invariant.0,
      rw length-set c.loop-i.invariant.1,
      c.moved-w.ensures.0 ∙ c.loop-i.invariant.2,
      subst (λ (l : List ℤ). Around l half (i + 1) c.moved-w.result.lo c.moved-w.result.hi) same c.moved-w.ensures.1,
      one_more (λ (k : ℕ) (z : ℤ). z ≡ clamp16 (at x k -ℤ mean_of (around half x k))) c.loop-i.out i _ (pos 0) (omega (arith, c.loop-i.invariant.1)) c.loop-i.invariant.4
          (to_z-of_z {w = w16} (sfits_of c.off.type_inv) ∙ e
          ∙ rw (to_z-of_z {w = w32} (sfits_of c.mean_in.type_inv), c.mean_in.ensures.0, held w, c.or_by-d.ensures, around-sum x half i w.lo w.hi w.sum c.loop-i.invariant.3 slid, around-long x half i w.lo w.hi w.sum c.loop-i.invariant.3 slid)),
    )

pub returns : goal.returns
unfolding highpassed
returns c =
    let x = c.args.self.samples.now in built (pos 0) c.loop-i.out (length x) (λ i. clamp16 (at x i -ℤ mean_of (around (half_of c.args.m (length x)) x i))) c.loop-i.invariant.1
    (λ k h. c.loop-i.invariant.4 k (omega (arith, c.loop-i-test.false)) ∙ ap (λ (half : ℕ). clamp16 (at x k -ℤ mean_of (around half x k))) c.loop-i.invariant.0)
