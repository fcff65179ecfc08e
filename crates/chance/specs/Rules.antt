-- What the counts come to. Theorems in proofs/Rules.antt.
use Rattle.std.specs.Prelude.{◌≡◌, true, List, ℕ, suc, ◌*◌, ◌^◌, ◌≤◌, length, Ok}
use Rattle.num.specs.Sum.{total}
use Rattle.fall.specs.declared.FallConfig.{FallConfig}
use Rattle.fall.specs.Fall.{new_detector}
use Rattle.chance.specs.Chance.{sequences, events_of, allowed, chances_answer}

-- there are choices to the power n sequences
abbrev pub SequencesAreAll : Type 0
SequencesAreAll = (choices : List ℕ) (n : ℕ) → length (sequences choices n) ≡ length choices ^ n

-- and where nothing is refused the counts total them
abbrev pub CountsTotalAllSequences : Type 0
CountsTotalAllSequences = (c : FallConfig) (choices : List ℕ) (spacing n : ℕ)
    → allowed (length choices) spacing n ≡ true
    → (counts : List ℕ) × ((chances_answer c choices spacing n ≡ Ok counts) × (total counts ≡ length choices ^ n))

-- the first event takes four frames and each later one five, so that 24 frames make at most five events
abbrev pub EventsTakeFrames : Type 0
EventsTakeFrames = (c : FallConfig) (t spacing : ℕ) (ws : List ℕ) → 5 * events_of (new_detector c) t spacing ws ≤ suc (length ws)
