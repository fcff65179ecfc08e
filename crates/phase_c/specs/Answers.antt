-- What the calls answer in C: a refusal's number beside the phases. Assumes nothing.
use Rattle.std.specs.Prelude.{pos, replicate, Result, Ok, Err}
use Rattle.refusal.specs.Refusal.{number}
use Rattle.refusal.specs.declared.Refusal.{Refusal}
use Rattle.csi.specs.Layout.{max_subcarriers}
use Rattle.phase.specs.declared.Phases.{Phases}
use Rattle.phase_c.specs.declared.MeasuredPhases.{MeasuredPhases}

-- refusal 0 with the phases, or the refusal's number with nothing
abbrev pub nothing : Phases
nothing = record { phase = replicate max_subcarriers (pos 0); count = 0 }

abbrev pub shown : Result Phases Refusal → MeasuredPhases
shown (Ok p) = record { refusal = 0; phases = p }
shown (Err e) = record { refusal = number e; phases = nothing }
