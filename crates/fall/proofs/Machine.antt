-- The promises about the machine. Assumes nothing.
use mathlib.Core.Path.{◌≡◌, refl, sym, ◌∙◌, ap}
use mathlib.Core.Bool.{Bool, true, false, cond, ◌&&◌}
use mathlib.Core.List.{List, [], ◌∷◌}
use Prim.Native.Nat.{ℕ, ◌<◌, ◌≤◌}
use native.Mathlib.Omega.{arith}
use borrow.Author.Tests.{leb-true, leb-false, le-leb, lt-leb}
use Rattle.std.specs.Prelude.{Some, None}
use Rattle.fall.specs.declared.FallConfig.{FallConfig}
use Rattle.fall.specs.declared.FallDetector.{FallDetector}
use Rattle.fall.specs.declared.FallEvent.{FallEvent}
use Rattle.fall.specs.declared.Phase.{Phase}
use Rattle.fall.specs.declared.Phase.TheVariants.{Idle, Active, Burst, Settling, Refractory}
use Rattle.fall.specs.declared.Pushed.{Pushed}
use Rattle.fall.specs.Fall.{step_of, pushed, silent, raised, end_of}
use Rattle.fall.specs.Promises.{Frame, fed, says_of, Settled, OnlyWhenSettled, WheneverSettled, AllBefore, QuietAfterAnEvent, Onward, EventsApart}

abbrev at : FallConfig → Phase → FallDetector
at c p = record { config = c; phase = p }

-- silence is no event
no-event : {A : Type 0} (e : FallEvent) → None ≡ Some e → A
no-event e h = let z : ◌≡◌ {A = ℕ} 0 1 = cc in absurd (omega arith)

-- ---- when a fall is said
-- of three ways, only the second says one
record Second (a b c : Bool) (was e : FallEvent) : Type 0 where
  first : a ≡ false
  second : b ≡ true
  third : c ≡ true
  same : was ≡ e

by-second : (f : FallConfig) (a b c : Bool) (x z : Phase) (y : FallDetector) (was e : FallEvent)
    → (cond a (silent f x) (cond (b && c) (record { detector = y; suspicion = Some was }) (silent f z))).suspicion ≡ Some e → Second a b c was e
by-second f true b c x z y was e h = no-event e h
by-second f false true true x z y was e h = record { first = refl; second = refl; third = refl; same = cc }
by-second f false true false x z y was e h = no-event e h
by-second f false false c x z y was e h = no-event e h

settled_at : (c : FallConfig) (p : Phase) (f : Frame) (e : FallEvent) → says_of (at c p) f ≡ Some e → Settled (at c p) f e
unfolding pushed step_of
settled_at c Idle f e h = no-event e h
settled_at c (Active s q) f e h = no-event e h
settled_at c (Burst a p) f e h = no-event e h
settled_at c (Refractory u) f e h = no-event e h
settled_at c (Settling b p s) f e h =
    let r = by-second _ _ _ _ _ _ _ _ e h in
    record {
      settling = ap (λ (x : FallEvent). Settling x.burst_at x.peak_permille x.still_since) r.same;
      inactive = leb-false _ _ r.first;
      still = leb-true _ _ r.second;
      lasted = rw (← ap (λ (x : FallEvent). x.still_since) r.same) (leb-true _ _ r.third);
      now = sym (ap (λ (x : FallEvent). x.at) r.same);
    }

pub only-when-settled : OnlyWhenSettled
only-when-settled d f e h = settled_at d.config d.phase f e h

-- the step of a settled detector
raises : (d : FallDetector) (f : Frame) (e : FallEvent) → Settled d f e
    → step_of d.config d.phase f.wander f.time ≡ raised d.config e.burst_at e.peak_permille e.still_since f.time
unfolding step_of
raises d f e s = simp (s.settling, lt-leb _ _ s.inactive, le-leb _ _ s.still, le-leb _ _ s.lasted)

pub whenever-settled : WheneverSettled
unfolding pushed
whenever-settled d f e s = ap (λ (x : Pushed). x.suspicion) (raises d f e s) ∙ ap (λ (t : ℕ). (raised d.config e.burst_at e.peak_permille e.still_since t).suspicion) (sym s.now)

-- ---- the refractory time
-- a detector that said a fall is refractory
refractory-after : (d : FallDetector) (f : Frame) (e : FallEvent) → says_of d f ≡ Some e
    → (pushed d f.wander f.time).detector ≡ at d.config (Refractory (end_of d.config f.time))
unfolding pushed
refractory-after d f e h = rw (raises d f e (only-when-settled d f e h))

-- while the clock has not reached its end, a refractory detector stays as it is
stays : (c : FallConfig) (u : ℕ) (fs : List Frame) → AllBefore u fs → fed (at c (Refractory u)) fs ≡ at c (Refractory u)
unfolding pushed step_of
stays c u [] all = refl
stays c u (f ∷ fs) all = rw (lt-leb u f.time all.0) (stays c u fs all.1)

silent-at : (c : FallConfig) (u : ℕ) (g : Frame) → says_of (at c (Refractory u)) g ≡ None
unfolding pushed step_of
silent-at c u g = refl

pub quiet-after-an-event : QuietAfterAnEvent
quiet-after-an-event d f e fs g h all = rw (refractory-after d f e h, stays d.config (end_of d.config f.time) fs all) (silent-at d.config (end_of d.config f.time) g)

-- a clock that does not go back and ends before u was always before u
ends_last : (fs : List Frame) (s t : ℕ) → Onward s fs t → s ≤ t
ends_last [] s t on = on
ends_last (f ∷ fs) s t on = let h = ends_last fs f.time t on.1 in omega (arith, on.0)

all-before : (fs : List Frame) (s t u : ℕ) → Onward s fs t → t < u → AllBefore u fs
all-before [] s t u on h = tt
all-before (f ∷ fs) s t u on h = (let l = ends_last fs f.time t on.1 in omega arith, all-before fs f.time t u on.1 h)

pub events-apart : EventsApart
events-apart d f e fs g e' h h' on =
    let u : ℕ = end_of d.config f.time in
    let never : g.time < u → ⊥ = λ before. no-event e' (sym (quiet-after-an-event d f e fs g h (all-before fs f.time g.time u on before)) ∙ h') in
    omega arith
