-- The estimator fed frame by frame (vitals.rs, `push` and `reset`). A frame is the list of its amplitudes. Assumes nothing.
use Rattle.std.specs.Prelude.{Bool, false, cond, List, [], map, ℕ, ◌+◌, ◌/◌, max, eqb, ltb, leb, length, replicate, Option, None, Some}
use Rattle.num.specs.Lists.{plus}
use Rattle.window.specs.Window.{push_row}
use Rattle.vitals.specs.declared.config.VitalsConfig.{VitalsConfig}
use Rattle.estimator.specs.Estimate.{estimate_of}
use Rattle.estimator.specs.declared.Vitals.{Vitals}

-- What the estimator remembers: the block means since the last restart, at most n rows, oldest first; the open block's column totals and how
-- many frames are in it; the blocks since the last estimate
pub record Rhythm : Type 0 where
  pub blocks : List (List ℕ)
  pub totals : List ℕ
  pub frames : ℕ
  pub since : ℕ

-- what a frame gives: an estimate, where one is due
pub record Step : Type 0 where
  pub after : Rhythm
  pub answer : Option Vitals

-- nothing remembered, for frames of this many columns
abbrev pub restarted : ℕ → Rhythm
restarted count = record { blocks = []; totals = replicate count 0; frames = 0; since = 0 }

-- a frame of another length restarts the window and empties the open block
abbrev pub start_for : Rhythm → List ℕ → Rhythm
start_for d frame = cond (eqb (length d.totals) (length frame)) d (restarted (length frame))

abbrev pub with_frame : Rhythm → List ℕ → Rhythm
with_frame d frame = record { blocks = d.blocks; totals = plus d.totals frame; frames = d.frames + 1; since = d.since }

-- a whole block: its means are a row of the window
abbrev pub closed : ℕ → Rhythm → Rhythm
closed n d =
    record {
      blocks = push_row n d.blocks (map (λ (total : ℕ). total / d.frames) d.totals);
      totals = replicate (length d.totals) 0;
      frames = 0;
      since = d.since + 1;
    }

-- a setting of 0 counts as 1
abbrev pub or_one : ℕ → ℕ
or_one setting = max 1 setting

-- an estimate is due when the window is full and enough blocks have come since the last
abbrev pub due_at : (every n blocks since : ℕ) → Bool
due_at every n blocks since = cond (ltb blocks n) false (leb every since)

abbrev pub rested : Rhythm → Rhythm
rested d = record { blocks = d.blocks; totals = d.totals; frames = d.frames; since = 0 }

abbrev pub without_estimate : Rhythm → Step
without_estimate d = record { after = d; answer = None }

-- after a block: the estimate of the window, where one is due
abbrev pub judged : VitalsConfig → (n time : ℕ) → Rhythm → Step
judged cfg n time d =
    cond (due_at (or_one cfg.update_every) n (length d.blocks) d.since)
    (record { after = rested d; answer = Some (estimate_of cfg time d.blocks) })
    (without_estimate d)

-- One frame: an empty one changes nothing; any other is added to the open block, which is closed when it has its `decim` frames
unfoldable pub push_frame : VitalsConfig → (n time : ℕ) → Rhythm → List ℕ → Step
push_frame cfg n time d frame =
    let added = with_frame (start_for d frame) frame in
    cond (eqb (length frame) 0) (without_estimate d)
    (cond (ltb added.frames (or_one cfg.decim)) (without_estimate added)
    (judged cfg n time (closed n added)))
