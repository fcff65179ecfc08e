-- `signed_entry` meets its contract: the bits of an entry, read as a signed number. Assumes nothing.
use mathlib.Core.Path.{◌≡◌, ap, ◌∙◌}
use Prim.Native.Nat.{ℕ, ◌%◌, ◌<◌}
use native.Mathlib.Omega.{arith}
use borrow.Author.Rules.{sfits_of}
use lib.IntN.{pos}
use mir.Facts.{to_z-of_z}
use mir.Syntax.{w16}
use mir.Val.{to_z}
use Rattle.num.specs.Wrap.{wrap16}
use Rattle.num.proofs.Cast.{wrap16-is}
use Rattle.estimator.proofs.column.signed_entry.Goals as goal

signed : (e : ℕ) → e < 65536 → to_z w16 e ≡ wrap16 (pos e)
signed e h = let r : e ≡ e % 65536 = omega arith in ap (to_z w16) r ∙ wrap16-is (pos e)

pub returns : goal.returns
returns c =
    to_z-of_z {w = w16} (sfits_of c.cast_signed.type_inv) ∙ c.cast_signed.ensures ∙ signed c.entry.result c.entry.type_inv ∙ ap (λ (e : ℕ). wrap16 (pos e)) c.entry.ensures
