-- Phase presence is the detector of the wander of angles (phase.rs, `PhaseDetector`). Assumes nothing.
use Rattle.std.specs.Prelude.{ℕ, List, map, ℤ, pos, replicate}
use Rattle.window.specs.Window.{columns}
use Rattle.detector.specs.Calls.{zero_sums}
use Rattle.detector.specs.Detector.{Kind}
use Rattle.detector.specs.declared.Limits.{Limits}
use Rattle.vectors.specs.Vector.{bits}
use Rattle.phase_detector.specs.declared.Config.{Config}
use Rattle.phase_detector.specs.declared.Sums.{Sums}
use Rattle.phase_detector.specs.Wander.{angles, window_ppm}

-- no variance is above a million, and motion is the wander in tens of ppm
abbrev pub phase_kind : Kind
phase_kind = record { sums = angles; wander_of = window_ppm; top = 1000000; unit = 10 }

abbrev pub limits_of : Config → Limits
limits_of cfg = record { on = cfg.on_ppm; off = cfg.off_ppm; hold = cfg.hold }

-- a frame's angles as the entries of a row
abbrev pub entries : List ℤ → List ℕ
entries phase = map bits phase

abbrev pub no_sums : Sums
no_sums = record { cos = replicate columns (pos 0); sin = replicate columns (pos 0) }

-- the sums of w rows of zeros
abbrev pub zero_row_sums : ℕ → Sums
zero_row_sums w = record { cos = zero_sums angles.add angles.none angles.f w columns; sin = zero_sums angles.add angles.none angles.g w columns }
