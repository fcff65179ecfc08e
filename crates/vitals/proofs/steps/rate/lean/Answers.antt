-- `lean` meets its contract: a quotient is no larger than what is divided. Assumes nothing.
use mir.Facts.{to_z-of_z}
use Rattle.num.proofs.Abs.{sfits-abs, abs-sub, abs-mul, abs-quot-le, sub-fits, mul-fits}
use Rattle.num.proofs.Read.{read-abs}
use mathlib.Core.Path.{◌≡◌}
use Prim.Native.Nat.{◌*◌, ◌≤◌}
use native.Mathlib.Omega.{arith}
use lib.IntN.{ℤ, pos, nat_abs, ◌-ℤ◌, ◌*ℤ◌}
use lib.Signed.{quot_z}
use mir.Syntax.{w32}
use mir.Val.{SFits, to_z, of_z}
use Rattle.vitals.specs.Steps.{most_summed}
use Rattle.vitals.proofs.steps.rate.lean.Goals as goal

module _ (start : goal.Start) where
  abbrev a : ℤ
  a = start.args.a

  abbrev c : ℤ
  c = start.args.c

  abbrev d : ℤ
  d = start.args.d

  size : nat_abs ((a -ℤ c) *ℤ pos 8) ≤ 16 * most_summed
  size = omega (arith, abs-mul (a -ℤ c) (pos 8), abs-sub a c)

  fits-diff : SFits w32 (a -ℤ c)
  fits-diff = sub-fits a c (omega arith)

  fits-top : SFits w32 ((a -ℤ c) *ℤ pos 8)
  fits-top = mul-fits (a -ℤ c) (pos 8) (omega (arith, abs-sub a c))

  fits-quot : SFits w32 (quot_z ((a -ℤ c) *ℤ pos 8) d)
  fits-quot = sfits-abs {w = w32} _ (omega (arith, size, abs-quot-le ((a -ℤ c) *ℤ pos 8) d))

  -- each step read back from its local
  diff : to_z w32 (of_z w32 a) -ℤ to_z w32 (of_z w32 c) ≡ a -ℤ c
  diff = rw (read-abs w32 a (omega arith), read-abs w32 c (omega arith))

  top : to_z w32 (of_z w32 (to_z w32 (of_z w32 a) -ℤ to_z w32 (of_z w32 c))) *ℤ pos 8 ≡ (a -ℤ c) *ℤ pos 8
  top = rw (diff, to_z-of_z {w = w32} {z = a -ℤ c} fits-diff)

  quot : quot_z (to_z w32 (of_z w32 (to_z w32 (of_z w32 (to_z w32 (of_z w32 a) -ℤ to_z w32 (of_z w32 c))) *ℤ pos 8))) (to_z w32 (of_z w32 d)) ≡ quot_z ((a -ℤ c) *ℤ pos 8) d
  quot = rw (top, to_z-of_z {w = w32} {z = d} start.ranges.d, to_z-of_z {w = w32} {z = (a -ℤ c) *ℤ pos 8} fits-top)

pub returns : goal.returns
returns c = rw (quot c) (to_z-of_z {w = w32} (fits-quot c))
