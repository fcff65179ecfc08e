-- The words of a state are never refused: those of a new machine, and those that a call gave. Assumes nothing.
use Rattle.std.specs.Prelude.{◌≡◌, ℕ}
use Rattle.fall.specs.declared.FallConfig.{FallConfig}
use Rattle.fall.specs.Fall.{new_detector}
use Rattle.fall_words.specs.declared.Words.{Words}
use Rattle.fall_words.specs.Stored.{words, words_of}
use Rattle.fall_c.specs.Calls.{pushed_words}

-- words that no frame with these settings is refused with
abbrev pub Taken : FallConfig → Words → Type 0
Taken c ws = (w t : ℕ) → (pushed_words c ws w t).said.refusal ≡ 0

pub record NeverRefused : Type 0 where
  -- a new machine's words are all 0
  pub zeros : (c : FallConfig) → words_of (new_detector c).phase ≡ words 0 0 0 0
  pub new : (c : FallConfig) → Taken c (words 0 0 0 0)
  pub pushed : (c : FallConfig) (ws : Words) (w t : ℕ) → (pushed_words c ws w t).said.refusal ≡ 0 → Taken c (pushed_words c ws w t).words
