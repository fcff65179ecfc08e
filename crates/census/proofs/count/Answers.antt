-- `census::count` meets its contract. Assumes nothing.
use mathlib.Core.Path.{◌≡◌}
use native.Mathlib.Omega.{arith}
use borrow.Author.Rules.{sfits_of}
use mir.Syntax.{w8}
use mir.Val.{SFits}
use mir.Facts.{to_z-of_z}
use Rattle.csi.specs.Features.{amplitude_of}
use Rattle.census.specs.Census.{signed_byte, amplitudes, sectors, sector_in, census}
use Rattle.census.specs.Rows.{row_amplitudes, row_sectors}
use Rattle.census.proofs.Parts.{amplitude-bound, sector-bound}
use Rattle.census.proofs.Rows.{none-tallied, countable, row-tallied, all-tallied}
use Rattle.census.proofs.count.Goals as goal

pub loop-k-init : goal.loop-k-init
loop-k-init c = (none-tallied _ _, none-tallied _ _)

pub add_row-requires : goal.add_row-requires
unfolding row_amplitudes
add_row-requires c =
    let fits : SFits w8 c.signed_byte-im.result = sfits_of c.signed_byte-im.type_inv in
    let amplitude-row : c.row_amplitudes.result ≡ row_amplitudes (signed_byte c.loop-k.k) = rw (← c.signed_byte-im.ensures) (simp to_z-of_z at c.row_amplitudes.ensures) in
    let taken = c.loop-k-test.true in rw amplitude-row (countable amplitude_of amplitudes c.loop-k.invariant.0 taken (omega arith) (λ j l. amplitude-bound _ j taken l))

pub add_row-requires-in-loop-k : goal.add_row-requires-in-loop-k
unfolding row_sectors
add_row-requires-in-loop-k c =
    let fits : SFits w8 c.signed_byte-im.result = sfits_of c.signed_byte-im.type_inv in
    let sector-row : c.row_sectors.result ≡ row_sectors (signed_byte c.loop-k.k) = rw (← c.signed_byte-im.ensures) (simp to_z-of_z at c.row_sectors.ensures) in
    let taken = c.loop-k-test.true in rw sector-row (countable sector_in sectors c.loop-k.invariant.1 taken (omega arith) (λ j l. sector-bound _ j taken l))

pub loop-k-preserved : goal.loop-k-preserved
unfolding row_amplitudes row_sectors
loop-k-preserved c =
    let fits : SFits w8 c.signed_byte-im.result = sfits_of c.signed_byte-im.type_inv in
    let amplitude-row : c.row_amplitudes.result ≡ row_amplitudes (signed_byte c.loop-k.k) = rw (← c.signed_byte-im.ensures) (simp to_z-of_z at c.row_amplitudes.ensures) in
    let sector-row : c.row_sectors.result ≡ row_sectors (signed_byte c.loop-k.k) = rw (← c.signed_byte-im.ensures) (simp to_z-of_z at c.row_sectors.ensures) in
    let taken = c.loop-k-test.true in (
      rw (c.add_row.ensures, amplitude-row) (row-tallied _ _ c.loop-k.invariant.0 taken),
      rw (c.add_row-in-loop-k.ensures, sector-row) (row-tallied _ _ c.loop-k.invariant.1 taken),
    )

pub returns : goal.returns
unfolding census
returns c =
    let done = c.loop-k-test.false in rw (all-tallied _ _ c.loop-k.invariant.0 done, all-tallied _ _ c.loop-k.invariant.1 done)
