-- The words of a state are never refused: they are legal. Assumes nothing.
use mathlib.Core.Path.{◌≡◌, refl}
use mathlib.Core.Bool.{Bool, true, false, cond}
use native.Mathlib.Omega.{arith}
use Rattle.std.specs.Prelude.{Option, Some, None}
use Rattle.fall.specs.declared.FallConfig.{FallConfig}
use Rattle.fall.specs.declared.Phase.{Phase}
use Rattle.fall.specs.declared.Phase.TheVariants.{Idle}
use Rattle.fall.specs.declared.FallEvent.{FallEvent}
use Rattle.fall.specs.Fall.{pushed}
use Rattle.fall_words.specs.declared.Words.{Words}
use Rattle.fall_words.specs.Stored.{words_of, phase_of, legal}
use Rattle.fall_words.proofs.Stored.{legal-words}
use Rattle.fall_c.specs.Calls.{said_of, silent_said, pushed_words}
use Rattle.fall_c.specs.Promises.{Taken, NeverRefused}
use Rattle.fall_c.specs.declared.FallPushed.{FallPushed}

-- an event is no refusal
said-taken : (s : Option FallEvent) → (said_of s).refusal ≡ 0
said-taken None = refl
said-taken (Some e) = refl

-- a state's words
state-taken : (c : FallConfig) (p : Phase) → Taken c (words_of p)
unfolding pushed_words
state-taken c p w t = rw (legal-words p) (said-taken (pushed (record { config = c; phase = phase_of (words_of p) }) w t).suspicion)

-- words that are not refused are a state's after the frame
after : (b : Bool) (c : FallConfig) (ws : Words) (p : Phase) (s : Option FallEvent)
    → let r : FallPushed = cond b (record { words = words_of p; said = said_of s }) (record { words = ws; said = silent_said 2 }) in r.said.refusal ≡ 0 → Taken c r.words
after true c ws p s e = state-taken c p
after false c ws p s e = absurd (omega (arith, e))

pub never-refused : NeverRefused
unfolding words_of pushed_words
never-refused =
    record {
      zeros = λ c. refl;
      new = λ c. state-taken c Idle;
      pushed = λ c ws w t. let r = pushed (record { config = c; phase = phase_of ws }) w t in after (legal ws) c ws r.detector.phase r.suspicion;
    }
