-- `highest` meets its contract. Assumes nothing.
use mathlib.Core.Path.{◌≡◌, refl, sym, ap, ◌∙◌}
use mathlib.Core.Bool.{Bool, true, false, cond, not}
use mathlib.Core.List.{List}
use Prim.Native.Nat.{ℕ, suc, ◌+◌, ◌<◌, ◌≤◌, ◌-◌}
use native.Mathlib.Decide.{dec_lt}
use native.Mathlib.Omega.{arith}
use borrow.Author.Tests.{lt-ltb, le-ltb, le-leb, lt-leb}
use lib.Dec.{ltb, leb}
use lib.IntN.{ℤ, pos, negsuc}
use lib.Signed.{lt_z, le_z}
use Rattle.std.proofs.Common.{rules}
use Rattle.vitals.specs.Series.{at}
use Rattle.vitals.specs.Peak.{highest}
use Rattle.vitals.proofs.steps.summed.LagSums.highest.Goals as goal
use Rattle.vitals.proofs.steps.summed.LagSums.highest.Goals.{then-self-best, else-self-best}

at-most : (a b : ℕ) → leb b a ≡ not (ltb a b)
at-most a b = go (dec_lt a b)
  where
    go : Dec (a < b) → leb b a ≡ not (ltb a b)
    go (yes h) = rw (lt-ltb a b h, lt-leb b a h) refl
    go (no f) = rw (le-ltb a b (omega arith), le-leb b a (omega arith)) refl

not-below : (x y : ℤ) → le_z y x ≡ not (lt_z x y)
not-below (pos a) (pos b) = at-most a b
not-below (pos a) (negsuc b) = refl
not-below (negsuc a) (pos b) = refl
not-below (negsuc a) (negsuc b) = at-most b a

-- one lag more: the best so far stays, or gives way
more : (s : List ℤ) (k b : ℕ) → 3 ≤ k → b ≡ highest s (k - 3) → highest s (k + 1 - 3) ≡ cond (not (lt_z (at s b) (at s k))) b k
unfolding highest
more s k b h q =
    let e : k + 1 - 3 ≡ suc (k - 3) = omega arith in
    let d : 3 + (k - 3) ≡ k = omega arith in
    rw (e, ← q, d) (ap (λ (t : Bool). cond t b k) (not-below (at s b) (at s k)))

after : (s : List ℤ) (k b : ℕ) {t : Bool} → 3 ≤ k → b ≡ highest s (k - 3) → lt_z (at s b) (at s k) ≡ t → cond (not t) b k ≡ highest s (k + 1 - 3)
after s k b h q e = ap (λ (t : Bool). cond (not t) b k) (sym e) ∙ sym (more s k b h q)

pub loop-lag-init : goal.loop-lag-init
unfolding highest
loop-lag-init g c = (omega arith, omega arith, refl)

pub loop-lag-preserved : goal.loop-lag-preserved
loop-lag-preserved g c = elim c.if-self-best.branch [
  | then-self-best w ↦ (omega arith, omega arith, w.best-is ∙ after c.args.self.now.by_lag c.loop-lag.lag c.loop-lag.best {t = true} (omega arith) c.loop-lag.invariant.2 (let h = w.if-self-best.true in search rules))
  | else-self-best w ↦ (omega arith, omega arith, w.best-is ∙ after c.args.self.now.by_lag c.loop-lag.lag c.loop-lag.best {t = false} (omega arith) c.loop-lag.invariant.2 (let h = w.if-self-best.false in search rules))
]
