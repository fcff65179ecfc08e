-- A column's sums, of a vector and of others in range, are in range too. Assumes nothing.
use mathlib.Core.Path.{◌≡◌, ◌∙◌}
use Prim.Native.Nat.{◌*◌, ◌≤◌, ◌^◌}
use native.Mathlib.Omega.{arith}
use lib.IntN.{ℤ, nat_abs, ◌+ℤ◌}
use Rattle.num.proofs.Abs.{abs-add}
use Rattle.vectors.specs.Vector.{cos_at, sin_at}
use Rattle.vectors.proofs.Sizes.{cos-le, sine-le}
use Rattle.phase_detector.proofs.SumsColumnSums.replace.Goals as goal

small : (sum old rest : ℤ) → sum ≡ old +ℤ rest → nat_abs old ≤ 16384 → nat_abs rest ≤ 16384 * 8192 → nat_abs sum ≤ 2 ^ 28
small sum old rest e h k = rw e (omega (arith, abs-add old rest))

pub moved-requires : goal.moved-requires
moved-requires c =
    let h = c.requires.holds in (
      small c.at.result.cos (cos_at c.args.old) h.first (c.at.ensures.0 ∙ h.first-is) (cos-le c.args.old) h.range.cosines,
      small c.at.result.sin (sin_at c.args.old) h.second (c.at.ensures.1 ∙ h.second-is) (sine-le c.args.old) h.range.sines,
    )
