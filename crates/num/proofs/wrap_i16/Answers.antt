-- `num::wrap_i16` meets its contract. Assumes nothing.
use mathlib.Core.Path.{ap, ◌∙◌}
use borrow.Author.Rules.{sfits_of}
use mir.Facts.{to_z-of_z}
use Prim.Native.Nat.{ℕ, ◌%◌}
use mir.Syntax.{w16, w64}
use mir.Val.{to_z, of_z}
use Rattle.num.proofs.Cast.{wrap16-is, low16}
use Rattle.num.proofs.wrap_i16.Goals as goal

pub returns : goal.returns
returns c =
    let x = c.args.x in
    to_z-of_z {w = w16} (sfits_of c.cast_signed.type_inv)
    ∙ c.cast_signed.ensures
    ∙ ap (λ (n : ℕ). to_z w16 (n % 65536)) (c.cast_unsigned.ensures ∙ ap (of_z w64) (to_z-of_z c.ranges.x))
    ∙ ap (to_z w16) (low16 x c.ranges.x)
    ∙ wrap16-is x
