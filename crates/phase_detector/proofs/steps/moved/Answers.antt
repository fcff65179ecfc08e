-- `phase_detector::steps::moved` meets its contract. Assumes nothing.
use Prim.Native.Nat.{◌^◌, ◌≤◌}
use native.Mathlib.Omega.{arith}
use lib.IntN.{ℤ, nat_abs, ◌+ℤ◌, ◌-ℤ◌}
use mir.Syntax.{w32}
use mir.Val.{SFits}
use Rattle.num.proofs.Abs.{abs-sub, add-fits, sub-fits}
use Rattle.num.proofs.AddZ.{term-replaced}
use Rattle.vectors.specs.Vector.{cos_at, sin_at}
use Rattle.vectors.proofs.Sizes.{cos-le, sine-le}
use Rattle.phase_detector.proofs.steps.moved.Goals as goal

-- a sum with one term less, and with one more
less : (sum old : ℤ) → nat_abs sum ≤ 2 ^ 28 → nat_abs old ≤ 16384 → SFits w32 (sum -ℤ old)
less sum old hs ho = sub-fits sum old (omega arith)

more : (sum old new : ℤ) → nat_abs sum ≤ 2 ^ 28 → nat_abs old ≤ 16384 → nat_abs new ≤ 16384 → SFits w32 (sum -ℤ old +ℤ new)
more sum old new hs ho hn = add-fits (sum -ℤ old) new (omega (arith, abs-sub sum old))

pub sub-requires : goal.sub-requires
sub-requires c =
    rw (c.unit_vector.ensures.0, c.unit_vector.ensures.1)
    (less c.args.sums.cos (cos_at c.args.old) c.requires.0 (cos-le c.args.old), less c.args.sums.sin (sin_at c.args.old) c.requires.1 (sine-le c.args.old))

pub add-requires : goal.add-requires
add-requires c =
    rw (c.sub.ensures.0, c.sub.ensures.1, c.unit_vector.ensures.0, c.unit_vector.ensures.1, c.unit_vector-2.ensures.0, c.unit_vector-2.ensures.1) (
      more c.args.sums.cos (cos_at c.args.old) (cos_at c.args.x) c.requires.0 (cos-le c.args.old) (cos-le c.args.x),
      more c.args.sums.sin (sin_at c.args.old) (sin_at c.args.x) c.requires.1 (sine-le c.args.old) (sine-le c.args.x),
    )

pub returns : goal.returns
returns c =
    rw (c.add.ensures.0, c.add.ensures.1, c.sub.ensures.0, c.sub.ensures.1, c.unit_vector.ensures.0, c.unit_vector.ensures.1, c.unit_vector-2.ensures.0, c.unit_vector-2.ensures.1)
    (term-replaced c.args.sums.cos (cos_at c.args.old) (cos_at c.args.x), term-replaced c.args.sums.sin (sin_at c.args.old) (sin_at c.args.x))
