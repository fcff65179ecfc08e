-- What the functions for one watched sample promise. Assumes nothing.
use Rattle.std.specs.Prelude.{◌≡◌, Bool, true, cond, List, ℕ, length, take, Option, is_some}
use Rattle.window.specs.Window.{columns}
use Rattle.detector.specs.Detector.{Pushes}
use Rattle.sliding.specs.declared.Held.{Held}
use Rattle.presence.specs.Presence.{presence_kind}
use Rattle.presence.specs.Presence as presence
use Rattle.presence.specs.declared.Config.{Config as PresenceConfig}
use Rattle.presence.specs.declared.Sums.{Sums as Amplitudes}
use Rattle.phase_detector.specs.Phase.{phase_kind, entries}
use Rattle.phase_detector.specs.Phase as phase
use Rattle.phase_detector.specs.declared.Config.{Config as PhaseConfig}
use Rattle.phase_detector.specs.declared.Sums.{Sums as Angles}
use Rattle.estimator.specs.State.{Took}
use Rattle.estimator.specs.declared.VitalsEstimator.{VitalsEstimator}
use Rattle.estimator.specs.declared.Vitals.{Vitals}
use Rattle.vitals.specs.declared.config.VitalsConfig.{VitalsConfig}
use Rattle.detector.specs.declared.Verdict.{Verdict}
use Rattle.csi.specs.declared.Features.{Features}
use Rattle.phase.specs.Phases.{frame_phases}
use Rattle.phase.specs.declared.Phases.{Phases}
use Rattle.fall.specs.Fall.{step_of, silent}
use Rattle.fall.specs.declared.FallConfig.{FallConfig}
use Rattle.fall.specs.declared.Pushed.{Pushed}
use Rattle.fall_words.specs.Stored.{phase_of, legal}
use Rattle.fall_words.specs.declared.Words.{Words}
use Rattle.room_memory.specs.declared.RoomState.{RoomState}
use Rattle.room_sensing.specs.Sensing.{tag_of, time_of, iq_of, features_in, watch, watched_finds, is_warming}
use Rattle.room_sensing.specs.declared.settings.Settings.{Settings}
use Rattle.room_sensing.specs.declared.answer.Watched.{Watched}
use Rattle.room_state.specs.Rings.{rings_of}
use Rattle.room_state.specs.State.{held_in, GoodState}

-- a frame pushed into one ring: what the detector's own push promises of it
abbrev pub InPresence : PresenceConfig → (w : ℕ) → Held Amplitudes → (ring : List ℕ) → Features → (time : ℕ) → Held Amplitudes → (ring' : List ℕ) → Verdict → Type 0
InPresence c w h ring f time h' ring' v =
    Pushes presence_kind (presence.limits_of c) w columns h.state ring f.amplitude f.count time h'.state ring' h'.sums.sum h'.sums.sumsq v

abbrev pub InPhase : PhaseConfig → (w : ℕ) → Held Angles → (ring : List ℕ) → Phases → (time : ℕ) → Held Angles → (ring' : List ℕ) → Verdict → Type 0
InPhase c w h ring a time h' ring' v =
    Pushes phase_kind (phase.limits_of c) w columns h.state ring (entries a.phase) a.count time h'.state ring' h'.sums.cos h'.sums.sin v

abbrev pub InRhythm : VitalsConfig → (n : ℕ) → VitalsEstimator → (ring : List ℕ) → Features → (time : ℕ) → VitalsEstimator → (ring' : List ℕ) → Option Vitals → Type 0
InRhythm c n e ring f time e' ring' answer =
    Took c n time e ring (take f.count f.amplitude) answer e' ring'

-- the fall machine after the verdict and the wander of presence
abbrev pub stepped_by : FallConfig → Words → Verdict → (wander time : ℕ) → Pushed
stepped_by c words v wander time = cond (is_warming v) (silent c (phase_of words)) (step_of c (phase_of words) wander time)

pub record Falls (c : FallConfig) (words : Words) (v : Verdict) (wander time : ℕ) (words' : Words) (fell : Bool) : Type 0 where
  pub phase : phase_of words' ≡ (stepped_by c words v wander time).detector.phase
  pub told : fell ≡ is_some (stepped_by c words v wander time).suspicion
  pub legal : legal words' ≡ true

-- A watched sample that its bytes do not refuse, fed to all detectors: what is found, and what state and rows then hold, what they mean and every number
-- of them. What each detector says stands between.
pub record Feeds (σ : Settings) (s : RoomState) (rows body : List ℕ) (found : Watched) (s' : RoomState) (rows' : List ℕ) : Type 0 where
  pub finds : found ≡ watched_finds σ (held_in σ s (rings_of σ rows)) body
  pub held : held_in σ s' (rings_of σ rows') ≡ watch σ (held_in σ s (rings_of σ rows)) body
  pub tag : s'.tag ≡ s.tag
  pub good : GoodState σ s' (rings_of σ rows')
  pub long : length rows' ≡ length rows
  pub presence_says : Verdict
  pub phase_says : Verdict
  pub breathing_says : Option Vitals
  pub heart_says : Option Vitals
  pub fell : Bool
  pub presence : InPresence σ.presence σ.w s.presence (rings_of σ rows).presence (features_in body) (time_of body)
      s'.presence (rings_of σ rows').presence presence_says
  pub phase : InPhase σ.phase σ.w s.phase (rings_of σ rows).phase (frame_phases (iq_of body) (tag_of body)) (time_of body)
      s'.phase (rings_of σ rows').phase phase_says
  pub breathing : InRhythm σ.breathing σ.n s.breathing (rings_of σ rows).breathing (features_in body) (time_of body)
      s'.breathing (rings_of σ rows').breathing breathing_says
  pub heart : InRhythm σ.heart σ.n s.heart (rings_of σ rows).heart (features_in body) (time_of body)
      s'.heart (rings_of σ rows').heart heart_says
  pub falls : Falls σ.fall s.fall presence_says s'.presence.state.wander (time_of body) s'.fall fell
  pub baseline : s'.baseline ≡ s.baseline
