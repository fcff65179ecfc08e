-- `census::row_amplitudes` meets its contract. Assumes nothing.
use mathlib.Core.Path.{sym, ◌∙◌}
use Rattle.std.proofs.Common.{rules}
use Rattle.num.proofs.Grid.{map-build}
use Rattle.csi.specs.Features.{amplitude_of}
use Rattle.num.proofs.Made.{made}
use Rattle.census.specs.Census.{bytes, signed_byte, signed_bytes}
use Rattle.census.specs.Rows.{row_amplitudes}
use Rattle.census.proofs.row_amplitudes.Goals as goal

pub returns : goal.returns
unfolding row_amplitudes signed_bytes
returns c =
    made _ _ bytes (λ k. amplitude_of c.args.im (signed_byte k)) (λ k r q l h. search rules) _ c.from_fn.ensures.items
    ∙ sym (map-build (amplitude_of c.args.im) bytes signed_byte)
