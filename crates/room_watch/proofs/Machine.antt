-- The fall machine stepped on its words. Assumes nothing.
use mathlib.Core.Path.{◌≡◌}
use mathlib.Core.Bool.{Bool, true, false}
use Prim.Native.Nat.{ℕ}
use Rattle.std.specs.Prelude.{Option, is_some}
use Rattle.detector.specs.declared.Verdict.{Verdict}
use Rattle.detector.specs.declared.Verdict.TheVariants.{Warming}
use Rattle.fall.specs.Fall.{pushed}
use Rattle.fall.specs.Promises.{Lent}
use Rattle.fall.specs.declared.FallConfig.{FallConfig}
use Rattle.fall.specs.declared.FallDetector.{FallDetector}
use Rattle.fall.specs.declared.FallEvent.{FallEvent}
use Rattle.fall.specs.declared.Phase.{Phase}
use Rattle.fall_words.specs.Stored.{words_of, phase_of, legal}
use Rattle.fall_words.specs.declared.Words.{Words}
use Rattle.fall_words.proofs.Stored.{load_store, legal-words}
use Rattle.room_sensing.specs.Sensing.{is_warming}
use Rattle.room_sensing.proofs.Rules.{not-warming}
use Rattle.room_watch.specs.Watching.{Falls}

module _ (c : FallConfig) (words : Words) (v : Verdict) (wander time : ℕ) where
  pub waits : is_warming v ≡ true → legal words ≡ true → Falls c words v wander time words false
  waits w l = record { phase = rw w; told = rw w; legal = l }

  pub steps : (words' : Words) (fell : Bool) (p : Phase) (d : FallDetector) (event : Option FallEvent) → (v ≡ Warming → ⊥) → p ≡ phase_of words
      → Lent (record { config = c; phase = p }) wander time d event → words' ≡ words_of d.phase → fell ≡ is_some event
      → Falls c words v wander time words' fell
  unfolding pushed
  steps words' fell p d event n ep h ew ef =
      let w = not-warming v n in
      record { phase = rw (w, ew, load_store, h.state, ep); told = rw (w, ef, h.said, ep); legal = rw ew (legal-words d.phase) }
