-- The state of the fall machine as numbers (fall.rs, `Phase`), for the memory of the room unit.
use Rattle.std.specs.Prelude.{◌≡◌, ℕ, ◌<◌, MatchResult, Bool, cond, ◌&&◌, eqb, Some, None, Result, Ok, Err}
use Rattle.refusal.specs.declared.Refusal.{Refusal}
use Rattle.refusal.specs.declared.Refusal.TheVariants.{Memory}
use Rattle.fall.specs.declared.Phase.{Phase}
use Rattle.fall.specs.declared.Phase.TheVariants.{Idle, Active, Burst, Settling, Refractory}
use Rattle.fall_words.specs.declared.Tag.{Tag}
use Rattle.fall_words.specs.declared.Words.{Words}

-- the number of a tag
abbrev pub tag_number : Tag → ℕ
tag_number Tag.Idle = 0
tag_number Tag.Active = 1
tag_number Tag.Quietened = 2
tag_number Tag.Burst = 3
tag_number Tag.Settling = 4
tag_number Tag.Refractory = 5

-- the tag with this number, or a refusal of a number that no tag has
abbrev pub Tags : ℕ → Result Tag Refusal → Type 0
Tags n r = MatchResult r (λ tag. tag_number tag ≡ n) (λ refusal. (refusal ≡ Memory) × (5 < n))

abbrev pub words : (tag peak a b : ℕ) → Words
words t p a b = record { tag = t; peak = p; a = a; b = b }

-- a state's words: what it does not use is 0
unfoldable pub words_of : Phase → Words
words_of Idle = words 0 0 0 0
words_of (Active s None) = words 1 0 s 0
words_of (Active s (Some q)) = words 2 0 s q
words_of (Burst a p) = words 3 p a 0
words_of (Settling b p s) = words 4 p b s
words_of (Refractory u) = words 5 0 u 0

-- the state that words stand for; any other tag stands for `Idle`
unfoldable pub phase_of : Words → Phase
phase_of w =
    cond (eqb w.tag 1) (Active w.a None)
    (cond (eqb w.tag 2) (Active w.a (Some w.b))
    (cond (eqb w.tag 3) (Burst w.a w.peak)
    (cond (eqb w.tag 4) (Settling w.a w.peak w.b)
    (cond (eqb w.tag 5) (Refractory w.a) Idle))))

abbrev pub same_words : Words → Words → Bool
same_words v w = eqb v.tag w.tag && (eqb v.peak w.peak && (eqb v.a w.a && eqb v.b w.b))

-- legal words are those of a state
unfoldable pub legal : Words → Bool
legal w = same_words (words_of (phase_of w)) w

-- the state that legal words load; any others are refused
abbrev pub loaded : Words → Result Phase Refusal
loaded w = cond (legal w) (Ok (phase_of w)) (Err Memory)
