-- `num::byte_magnitude` meets its contract. Assumes nothing.
use mathlib.Core.Path.{ap, ◌∙◌}
use borrow.Author.Rules.{sfits_of}
use mir.Syntax.{w8}
use mir.Facts.{to_z-of_z}
use native.Mathlib.Omega.{arith}
use lib.IntN.{nat_abs}
use Rattle.num.proofs.Byte.{byte_le}
use Rattle.num.proofs.Cast.{cast8}
use Rattle.num.proofs.byte_magnitude.Goals as goal

pub returns : goal.returns
returns c =
    let e = c.from.ensures ∙ c.unsigned_abs.ensures.value ∙ ap nat_abs (to_z-of_z {w = w8} (sfits_of c.cast_signed.type_inv) ∙ c.cast_signed.ensures ∙ cast8 c.args.b c.ranges.b.fits) in
    (e, omega (arith, e, byte_le c.args.b c.ranges.b.fits))
