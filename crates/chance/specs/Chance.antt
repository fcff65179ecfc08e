-- How often chance makes a fall (docs/SPEC.md, "How often chance makes a fall"): of all sequences of n wander values out of the choices, fed to a
-- new fall machine at times 0, spacing, 2·spacing and so on, how many make exactly k events.
use Rattle.std.specs.Prelude.{Bool, cond, ◌&&◌, ℕ, zero, suc, ◌+◌, leb, length, Option, Some, None, Result, Ok, Err}
use mathlib.Core.List.{List, [], ◌∷◌, map, flat_map}
use Rattle.num.specs.Lists.{tallies}
use Rattle.fall.specs.declared.FallConfig.{FallConfig}
use Rattle.fall.specs.declared.FallDetector.{FallDetector}
use Rattle.fall.specs.declared.FallEvent.{FallEvent}
use Rattle.fall.specs.Fall.{new_detector, pushed}
use Rattle.refusal.specs.declared.Refusal.{Refusal}
use Rattle.refusal.specs.declared.Refusal.TheVariants.{Chance}

-- all sequences of n choices: each choice in front of each sequence of the rest. A value that is listed twice is two choices
unfoldable pub sequences : List ℕ → ℕ → List (List ℕ)
sequences choices zero = [] ∷ []
sequences choices (suc n) = flat_map (λ w. map (λ rest. w ∷ rest) (sequences choices n)) choices

-- the events that a frame says: one or none
abbrev pub said : Option FallEvent → ℕ
said None = 0
said (Some e) = 1

-- the events that a machine makes of wander values, the first at time t
unfoldable pub events_of : FallDetector → (t spacing : ℕ) → List ℕ → ℕ
events_of d t spacing [] = 0
events_of d t spacing (w ∷ ws) =
    let r = pushed d w t in
    said r.suspicion + events_of r.detector (t + spacing) spacing ws

-- the limits of what is asked
abbrev pub max_choices : ℕ
max_choices = 4

abbrev pub max_frames : ℕ
max_frames = 24

abbrev pub max_spacing : ℕ
max_spacing = 1000000000

-- n frames make 0 to n events
abbrev pub event_counts : ℕ
event_counts = 25

-- for 0, 1, .., 24 events, how many of the sequences make so many, from a new machine
abbrev pub counts_of : FallConfig → List ℕ → (spacing n : ℕ) → List ℕ
counts_of c choices spacing n = tallies event_counts (events_of (new_detector c) 0 spacing) (sequences choices n)

-- the refusal: no choice or more than four, more than 24 frames, or a spacing above its limit
abbrev pub chance_refusal : ℕ
chance_refusal = 13

unfoldable pub allowed : (choices spacing n : ℕ) → Bool
allowed choices spacing n = leb 1 choices && (leb choices max_choices && (leb n max_frames && leb spacing max_spacing))

abbrev pub chances_refusal : (choices spacing n : ℕ) → ℕ
chances_refusal choices spacing n = cond (allowed choices spacing n) 0 chance_refusal

unfoldable pub chances_answer : FallConfig → List ℕ → (spacing n : ℕ) → Result (List ℕ) Refusal
chances_answer c choices spacing n = cond (allowed (length choices) spacing n) (Ok (counts_of c choices spacing n)) (Err Chance)
