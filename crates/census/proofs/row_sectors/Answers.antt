-- `census::row_sectors` meets its contract. Assumes nothing.
use mathlib.Core.Path.{sym, ◌∙◌}
use Rattle.std.proofs.Common.{rules}
use Rattle.num.proofs.Grid.{map-build}
use Rattle.num.proofs.Made.{made}
use Rattle.census.specs.Census.{bytes, signed_byte, signed_bytes, sector_in}
use Rattle.census.specs.Rows.{row_sectors}
use Rattle.census.proofs.row_sectors.Goals as goal

pub returns : goal.returns
unfolding row_sectors signed_bytes
returns c =
    made _ _ bytes (λ k. sector_in c.args.im (signed_byte k)) (λ k r q l h. search rules) _ c.from_fn.ensures.items
    ∙ sym (map-build (sector_in c.args.im) bytes signed_byte)
