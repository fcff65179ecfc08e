-- What is promised of a detector that is lent, and of the machine itself: when it says a fall, and how long it is silent after one.
use Rattle.std.specs.Prelude.{◌≡◌, List, [], ◌∷◌, ℕ, ◌-◌, ◌<◌, ◌≤◌, Option, Some, None}
use Rattle.fall.specs.declared.FallDetector.{FallDetector}
use Rattle.fall.specs.declared.FallEvent.{FallEvent}
use Rattle.fall.specs.declared.Phase.TheVariants.{Settling}
use Rattle.fall.specs.Fall.{end_of, pushed}

-- what stands behind the reference at exit, and the answer, are those of one `push`
pub record Lent (before : FallDetector) (w t : ℕ) (after : FallDetector) (answer : Option FallEvent) : Type 0 where
  pub state : after ≡ (pushed before w t).detector
  pub said : answer ≡ (pushed before w t).suspicion

pub record Frame : Type 0 where
  pub wander : ℕ
  pub time : ℕ

-- what the detector says of a frame, and the detector after frames
abbrev pub says_of : FallDetector → Frame → Option FallEvent
says_of d f = (pushed d f.wander f.time).suspicion

abbrev pub fed : FallDetector → List Frame → FallDetector
fed d [] = d
fed d (f ∷ fs) = fed (pushed d f.wander f.time).detector fs

-- The body that burst settles; the frame is not active and is still, at or below its threshold; the stillness began at least `still_for`
-- before; and the event reports the burst, its peak, the stillness and the frame's time.
pub record Settled (d : FallDetector) (f : Frame) (e : FallEvent) : Type 0 where
  pub settling : d.phase ≡ Settling e.burst_at e.peak_permille e.still_since
  pub inactive : f.wander < d.config.active_permille
  pub still : f.wander ≤ d.config.still_permille
  pub lasted : d.config.still_for ≤ f.time - e.still_since
  pub now : e.at ≡ f.time

-- a detector says a fall then and only then
abbrev pub OnlyWhenSettled : Type 0
OnlyWhenSettled = (d : FallDetector) (f : Frame) (e : FallEvent) → says_of d f ≡ Some e → Settled d f e

abbrev pub WheneverSettled : Type 0
WheneverSettled = (d : FallDetector) (f : Frame) (e : FallEvent) → Settled d f e → says_of d f ≡ Some e

-- each frame is before u
abbrev pub AllBefore : ℕ → List Frame → Type 0
AllBefore u [] = Unit {0}
AllBefore u (f ∷ fs) = (f.time < u) × AllBefore u fs

-- After an event, while no frame's clock has reached the end of the refractory time, a frame says nothing, and the frame that reaches it
-- says nothing either.
abbrev pub QuietAfterAnEvent : Type 0
QuietAfterAnEvent = (d : FallDetector) (f : Frame) (e : FallEvent) (fs : List Frame) (g : Frame)
    → says_of d f ≡ Some e → AllBefore (end_of d.config f.time) fs → says_of (fed d (f ∷ fs)) g ≡ None

-- the clock does not go back from t over frames to u
abbrev pub Onward : (t : ℕ) → List Frame → (u : ℕ) → Type 0
Onward t [] u = t ≤ u
Onward t (f ∷ fs) u = (t ≤ f.time) × Onward f.time fs u

-- on a clock that does not go back, the next event comes no sooner than the end of the refractory time
abbrev pub EventsApart : Type 0
EventsApart = (d : FallDetector) (f : Frame) (e : FallEvent) (fs : List Frame) (g : Frame) (e' : FallEvent)
    → says_of d f ≡ Some e → says_of (fed d (f ∷ fs)) g ≡ Some e' → Onward f.time fs g.time → end_of d.config f.time ≤ g.time
