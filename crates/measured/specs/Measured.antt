-- Features as C sees them: refusal 0 with the features, or the refusal's number with nothing. Assumes nothing.
use Rattle.std.specs.Prelude.{ℕ, Result, Ok, Err, replicate}
use Rattle.refusal.specs.Refusal.{number}
use Rattle.refusal.specs.declared.Refusal.{Refusal}
use Rattle.csi.specs.Layout.{max_subcarriers}
use Rattle.csi.specs.declared.Features.{Features}
use Rattle.measured.specs.declared.Measured.{Measured}

abbrev pub nothing : Features
nothing = record { amplitude = replicate max_subcarriers 0; count = 0; mean = 0; variance = 0 }

abbrev pub refused : (number : ℕ) → Measured
refused number = record { refusal = number; features = nothing }

abbrev pub measured : Result Features Refusal → Measured
measured (Ok f) = record { refusal = 0; features = f }
measured (Err reason) = refused (number reason)
