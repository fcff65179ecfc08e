-- The tests of settings and of a unit tell what they say. Assumes nothing.
use mathlib.Core.Path.{◌≡◌}
use mathlib.Core.Bool.{Bool, true, ◌&&◌}
use lib.Dec.{leb}
use Rattle.num.specs.Tests.{Tells}
use Rattle.num.proofs.Tests.{tells-iff, tells_both, tells-le}
use Rattle.window.specs.Window.{columns}
use Rattle.detector.proofs.Calls.{valid-told}
use Rattle.presence.specs.Presence.{presence_kind}
use Rattle.phase_detector.specs.Phase.{phase_kind}
use Rattle.estimator.specs.State as rhythm
use Rattle.fingerprint.specs.Baseline as fingerprint
use Rattle.fall_words.specs.Stored as fall
use Rattle.room_memory.specs.declared.RoomState.{RoomState}
use Rattle.room_sensing.specs.declared.settings.Settings.{Settings}
use Rattle.room_state.specs.Rings.{Rings}
use Rattle.room_state.specs.State.{max_tag, GoodState, windows_good, numbers_good, is_good}

module _ (σ : Settings) (s : RoomState) (r : Rings) where
  flag : (b : Bool) → Tells b (b ≡ true)
  flag b = (λ e. e, λ e. e)

  pub good-told : Tells (is_good σ s r) (GoodState σ s r)
  good-told =
      tells-iff (is_good σ s r)
      (λ all.
      record {
        tag = all.0;
        presence = all.1.1.0;
        phase = all.1.1.1;
        breathing = all.1.0.0;
        heart = all.1.0.1.0;
        baseline = all.1.0.1.1.0;
        fall = all.1.0.1.1.1;
      })
      (λ g. (g.tag, ((g.breathing, (g.heart, (g.baseline, g.fall))), (g.presence, g.phase))))
      (tells_both (leb s.tag max_tag) (numbers_good σ s && windows_good σ s r) (tells-le s.tag max_tag)
      (tells_both (numbers_good σ s) (windows_good σ s r)
      (tells_both _ _ (flag (rhythm.in_range σ.breathing σ.n s.breathing.progress s.breathing.acc))
      (tells_both _ _ (flag (rhythm.in_range σ.heart σ.n s.heart.progress s.heart.acc))
      (tells_both _ _ (flag (fingerprint.good s.baseline)) (flag (fall.legal s.fall)))))
      (tells_both _ _ (valid-told presence_kind σ.w columns s.presence.state r.presence s.presence.sums.sum s.presence.sums.sumsq)
      (valid-told phase_kind σ.w columns s.phase.state r.phase s.phase.sums.cos s.phase.sums.sin))))
