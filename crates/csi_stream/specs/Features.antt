-- The features of a record: `Form` where it is no sample, else what its I/Q bytes answer under its layout tag (csi_stream.rs, `Sample::features`).
-- Assumes nothing.
use Rattle.std.specs.Prelude.{Result, Err, ℕ, cond, List}
use Rattle.refusal.specs.declared.Refusal.{Refusal}
use Rattle.csi.specs.Features.{features_answer}
use Rattle.csi.specs.declared.Features.{Features}
use Rattle.csi_stream.specs.Wire.{iq_of, sample_of}
use Rattle.csi_stream.specs.Codec.{legal}

unfoldable pub record_features : List ℕ → Result Features Refusal
record_features r = cond (legal r) (features_answer (iq_of r) (sample_of r).layout) (Err Refusal.Form)
