-- `csi::steps::amplitude` meets its contract: a signed number's byte stands for it. Assumes nothing.
use mathlib.Core.Path.{◌≡◌, sym, ap, ◌∙◌}
use Prim.Native.Nat.{ℕ, ◌<◌}
use lib.IntN.{ℤ}
use mir.Syntax.{w8}
use mir.Val.{SFits, to_z, of_z}
use mir.Facts.{to_z-of_z}
use Rattle.num.specs.Wrap.{signed8}
use Rattle.num.proofs.Cast.{cast8}
use Rattle.csi.proofs.steps.amplitude.Goals as goal

stands : (z : ℤ) (b : ℕ) → SFits w8 z → b < 256 → b ≡ of_z w8 (to_z w8 (of_z w8 z)) → signed8 b ≡ z
stands z b f h e = sym (cast8 b h) ∙ ap (to_z w8) (e ∙ ap (of_z w8) (to_z-of_z f)) ∙ to_z-of_z f

pub returns : goal.returns
returns c =
    let i = stands c.args.im c.cast_unsigned.result c.ranges.im c.cast_unsigned.type_inv c.cast_unsigned.ensures in
    let r = stands c.args.re c.cast_unsigned-2.result c.ranges.re c.cast_unsigned-2.type_inv c.cast_unsigned-2.ensures in
    c.amplitude.ensures ∙ rw (i, r)
