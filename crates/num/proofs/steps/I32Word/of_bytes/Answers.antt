-- The bytes of an i32 are the number that they hold. Assumes nothing.
use mathlib.Core.Path.{◌∙◌, ap}
use borrow.Author.Rules.{sfits_of}
use mir.Syntax.{w32}
use mir.Facts.{to_z-of_z}
use Rattle.num.specs.Wrap.{signed32}
use Rattle.num.proofs.Cast.{cast32}
use Rattle.num.proofs.steps.I32Word.of_bytes.Goals as goal

pub returns : goal.returns
returns c =
    to_z-of_z {w = w32} (sfits_of c.cast_signed.type_inv) ∙ c.cast_signed.ensures ∙ cast32 c.of_bytes.result c.of_bytes.type_inv ∙ ap signed32 c.of_bytes.ensures
