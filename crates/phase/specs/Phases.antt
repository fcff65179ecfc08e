-- What the calls answer (docs/SPEC.md, "Phase" and the refusals; phase.rs, `Phases`, `CsiFrame::phases`). Assumes nothing.
use Rattle.std.specs.Prelude.{cond, ◌&&◌, List, ◌++◌, map, ℕ, ◌-◌, leb, ℤ, pos, length, take, replicate, Result, Ok, Err}
use Rattle.std.specs.Result.{result_and}
use Rattle.refusal.specs.declared.Refusal.{Refusal}
use Rattle.csi.specs.Layout.{max_subcarriers, layout_of, entries_of, frame_check}
use Rattle.phase.specs.Angle.{entry_angle}
use Rattle.phase.specs.Line.{phases_of}
use Rattle.phase.specs.declared.Angles.{Angles}
use Rattle.phase.specs.declared.Phases.{Phases}

-- the phases of these angles: 0 stands behind them
unfoldable pub sanitised : List ℤ → Phases
sanitised angles =
    record {
      phase = phases_of angles ++ replicate (max_subcarriers - length angles) (pos 0);
      count = length angles;
    }

-- the phases of the entries that a tag's layout uses
unfoldable pub frame_phases : List ℕ → (tag : ℕ) → Phases
frame_phases iq tag = sanitised (map (entry_angle iq) (entries_of (layout_of tag)))

-- of a sample's I/Q bytes: refused are an unknown tag and too few bytes
unfoldable pub phases_answer : List ℕ → (tag : ℕ) → Result Phases Refusal
phases_answer iq tag = result_and (frame_check (length iq) tag) (Ok (frame_phases iq tag))

-- of hand-made angles: refused is a count above 64, and one below the two that a line needs (`CsiFrame::phases` gives an error
-- there too)
unfoldable pub angles_refusal : (count : ℕ) → ℕ
angles_refusal count = cond (leb 2 count && leb count max_subcarriers) 0 7

-- the angles in use
abbrev pub used : Angles → List ℤ
used a = take a.count a.angle

unfoldable pub angles_answer : Angles → Result Phases Refusal
angles_answer a = cond (leb 2 a.count && leb a.count max_subcarriers) (Ok (sanitised (used a))) (Err Refusal.Count)
