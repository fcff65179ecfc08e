-- From what each detector promises to what a watched sample does: one law for each field held. Assumes nothing.
use mathlib.Core.Path.{◌≡◌, sym, ap, subst, ◌∙◌}
use mathlib.Core.Bool.{Bool, cond}
use mathlib.Core.List.{List}
use Prim.Native.Nat.{ℕ, ◌≤◌}
use native.Mathlib.Omega.{arith}
use lib.ListN.{length}
use Rattle.std.specs.Prelude.{Option, is_some}
use Rattle.window.specs.Window.{columns, ring_rows}
use Rattle.csi.specs.Features.{features_of}
use Rattle.csi.specs.declared.Features.{Features}
use Rattle.csi.proofs.Shape.{features-count, features-most, features-long, normalised-count}
use Rattle.phase.specs.Phases.{frame_phases}
use Rattle.phase.specs.declared.Phases.{Phases}
use Rattle.phase.proofs.Shape.{frame-count}
use Rattle.detector.specs.Detector.{Detector, detector_of}
use Rattle.detector.specs.Verdict.{either_of}
use Rattle.detector.specs.declared.Verdict.{Verdict}
use Rattle.estimator.specs.State.{legal, rhythm_at}
use Rattle.estimator.specs.declared.Vitals.{Vitals}
use Rattle.fall.specs.Fall.{step_of, silent}
use Rattle.fall.specs.declared.Pushed.{Pushed}
use Rattle.fall_words.specs.Stored.{phase_of}
use Rattle.fingerprint.specs.Baseline.{mean_of, distance_from}
use Rattle.room_memory.specs.declared.RoomState.{RoomState}
use Rattle.room_sensing.specs.Answers.{rate_of}
use Rattle.room_sensing.specs.Sensing.{Held, tag_of, time_of, iq_of, bytes_refusal, features_in, is_warming, presence_says, phase_says, presence_after, phase_after, breathing_after, heart_after, fall_after, watch, watched_finds}
use Rattle.room_sensing.specs.declared.settings.Settings.{Settings}
use Rattle.room_sensing.specs.declared.answer.Watched.{Watched}
use Rattle.room_sensing.proofs.Samples.{frame-serves}
use Rattle.room_state.specs.Rings.{Rings, rings_of}
use Rattle.room_state.specs.State.{held_in, GoodState}
use Rattle.room_watch.specs.Watching.{InPresence, InPhase, InRhythm, Falls, Feeds, stepped_by}

-- what all detectors did with a sample, on the rings and beside them
pub record Fed (σ : Settings) (s : RoomState) (r : Rings) (f : Features) (a : Phases) (time : ℕ) (v u : Verdict) (b h : Option Vitals) (fell : Bool) (s' : RoomState) (r' : Rings) : Type 0 where
  pub presence : InPresence σ.presence σ.w s.presence r.presence f time s'.presence r'.presence v
  pub phase : InPhase σ.phase σ.w s.phase r.phase a time s'.phase r'.phase u
  pub breathing : InRhythm σ.breathing σ.n s.breathing r.breathing f time s'.breathing r'.breathing b
  pub heart : InRhythm σ.heart σ.n s.heart r.heart f time s'.heart r'.heart h
  pub falls : Falls σ.fall s.fall v s'.presence.state.wander time s'.fall fell
  pub tag : s'.tag ≡ s.tag
  pub baseline : s'.baseline ≡ s.baseline

-- what is told of what they say
abbrev pub told : RoomState → (v u : Verdict) (b h : Option Vitals) → (fell : Bool) → (distance : ℕ) → Watched
told s' v u b h fell distance =
    record {
      verdict = either_of v u;
      permille = s'.presence.state.wander;
      ppm = s'.phase.state.wander;
      breathing = rate_of b;
      heart = rate_of h;
      fall = fell;
      distance = distance;
    }

module _ (σ : Settings) (s s' : RoomState) (rows rows' body : List ℕ) (v u : Verdict) (b h : Option Vitals) (fell : Bool)
    (F : Fed σ s (rings_of σ rows) (features_in body) (frame_phases (iq_of body) (tag_of body)) (time_of body) v u b h fell s' (rings_of σ rows')) where
  abbrev before : Held
  before = held_in σ s (rings_of σ rows)

  presence-fed : detector_of s'.presence.state (ring_rows σ.w columns (rings_of σ rows').presence) ≡ presence_after σ before body
  unfolding presence_after held_in
  presence-fed = F.presence.detector

  phase-fed : detector_of s'.phase.state (ring_rows σ.w columns (rings_of σ rows').phase) ≡ phase_after σ before body
  unfolding phase_after held_in
  phase-fed = F.phase.detector

  presence-told : v ≡ presence_says σ (presence_after σ before body)
  presence-told = F.presence.answer ∙ ap (λ (d : Detector). presence_says σ d) presence-fed

  phase-told : u ≡ phase_says σ (phase_after σ before body)
  phase-told = F.phase.answer ∙ ap (λ (d : Detector). phase_says σ d) phase-fed

  permille-told : s'.presence.state.wander ≡ (presence_after σ before body).wander
  unfolding detector_of
  permille-told = ap (λ (d : Detector). d.wander) presence-fed

  ppm-told : s'.phase.state.wander ≡ (phase_after σ before body).wander
  unfolding detector_of
  ppm-told = ap (λ (d : Detector). d.wander) phase-fed

  breathing-fed : record { after = rhythm_at s'.breathing.progress s'.breathing.acc (ring_rows σ.n columns (rings_of σ rows').breathing); answer = b } ≡ breathing_after σ before body
  unfolding breathing_after held_in
  breathing-fed = F.breathing.step

  heart-fed : record { after = rhythm_at s'.heart.progress s'.heart.acc (ring_rows σ.n columns (rings_of σ rows').heart); answer = h } ≡ heart_after σ before body
  unfolding heart_after held_in
  heart-fed = F.heart.step

  fall-stepped : stepped_by σ.fall s.fall v s'.presence.state.wander (time_of body) ≡ fall_after σ before.fall (presence_after σ before body) (time_of body)
  unfolding fall_after held_in
  fall-stepped = λ i. cond (is_warming (presence-told i)) (silent σ.fall (phase_of s.fall)) (step_of σ.fall (phase_of s.fall) (permille-told i) (time_of body))

  finds : (distance : ℕ) → distance ≡ distance_from (mean_of s.baseline) (features_in body).variance → told s' v u b h fell distance ≡ watched_finds σ before body
  unfolding held_in
  finds distance ed =
      let event = F.falls.told ∙ ap (λ (x : Pushed). is_some x.suspicion) fall-stepped in
      λ i.
      record {
        verdict = either_of (presence-told i) (phase-told i);
        permille = permille-told i;
        ppm = ppm-told i;
        breathing = rate_of (breathing-fed i).answer;
        heart = rate_of (heart-fed i).answer;
        fall = event i;
        distance = ed i;
      }

  held : held_in σ s' (rings_of σ rows') ≡ watch σ before body
  unfolding held_in
  held =
      let fallen = F.falls.phase ∙ ap (λ (x : Pushed). x.detector.phase) fall-stepped in
      λ i. record { presence = presence-fed i; phase = phase-fed i; breathing = (breathing-fed i).after; heart = (heart-fed i).after; fall = fallen i; baseline = F.baseline i }

  after-good : GoodState σ s (rings_of σ rows) → GoodState σ s' (rings_of σ rows')
  after-good good =
      record {
        tag = rw F.tag good.tag;
        presence = F.presence.valid;
        phase = F.phase.valid;
        breathing = F.breathing.range;
        heart = F.heart.range;
        baseline = rw F.baseline good.baseline;
        fall = F.falls.legal;
      }

  pub feeds : (found : Watched) (distance : ℕ) → GoodState σ s (rings_of σ rows) → length rows' ≡ length rows → found ≡ told s' v u b h fell distance
      → distance ≡ distance_from (mean_of s.baseline) (features_in body).variance → Feeds σ s rows body found s' rows'
  feeds found distance good long e ed =
      record {
        finds = e ∙ finds distance ed;
        held = held;
        tag = F.tag;
        good = after-good good;
        long = long;
        presence_says = v;
        phase_says = u;
        breathing_says = b;
        heart_says = h;
        fell = fell;
        presence = F.presence;
        phase = F.phase;
        breathing = F.breathing;
        heart = F.heart;
        falls = F.falls;
        baseline = F.baseline;
      }

-- the same, of numbers and rings that are those of the sample and of the rows
pub fed : (σ : Settings) (s s' : RoomState) (rows rows' body : List ℕ) (r r' : Rings) (f : Features) (a : Phases) (time : ℕ) (v u : Verdict) (b h : Option Vitals) (fell : Bool)
    (found : Watched) (distance : ℕ) → f ≡ features_in body → a ≡ frame_phases (iq_of body) (tag_of body) → time ≡ time_of body → rings_of σ rows ≡ r → rings_of σ rows' ≡ r'
    → Fed σ s r f a time v u b h fell s' r' → GoodState σ s (rings_of σ rows) → length rows' ≡ length rows → found ≡ told s' v u b h fell distance
    → distance ≡ distance_from (mean_of s.baseline) f.variance → Feeds σ s rows body found s' rows'
fed σ s s' rows rows' body r r' f a time v u b h fell found distance ef ea et er er' F good long e ed =
    feeds σ s s' rows rows' body v u b h fell
    (subst (λ (x : Features). Fed σ s (rings_of σ rows) x (frame_phases (iq_of body) (tag_of body)) (time_of body) v u b h fell s' (rings_of σ rows')) ef
    (subst (λ (x : Phases). Fed σ s (rings_of σ rows) f x (time_of body) v u b h fell s' (rings_of σ rows')) ea
    (subst (λ (x : ℕ). Fed σ s (rings_of σ rows) f a x v u b h fell s' (rings_of σ rows')) et
    (subst (λ (x : Rings). Fed σ s x f a time v u b h fell s' (rings_of σ rows')) (sym er)
    (subst (λ (x : Rings). Fed σ s r f a time v u b h fell s' x) (sym er') F)))))
    found distance good long e (ed ∙ ap (λ (x : Features). distance_from (mean_of s.baseline) x.variance) ef)

-- an accepted sample feeds no more than fits a row
module _ (body : List ℕ) (e : bytes_refusal body ≡ 0) where
  pub few-amplitudes : (features_in body).count ≤ columns
  few-amplitudes =
      let most = features-most (iq_of body) (tag_of body) (frame-serves body e) in
      let long = features-long (iq_of body) (tag_of body) (frame-serves body e) in
      omega (arith, normalised-count (features_of (iq_of body) (tag_of body)) most long)

  pub few-angles : (frame_phases (iq_of body) (tag_of body)).count ≤ columns
  few-angles =
      let most = features-most (iq_of body) (tag_of body) (frame-serves body e) in
      omega (arith, frame-count (iq_of body) (tag_of body), features-count (iq_of body) (tag_of body))
