-- `Divisor::divide` meets its contract: the product fits, and its upper bits are the quotient. Assumes nothing.
use mathlib.Core.Path.{◌≡◌}
use Prim.Native.Nat.{ℕ, ◌+◌, ◌*◌, ◌/◌, ◌^◌, ◌≤◌, ◌<◌}
use native.Mathlib.Nat.{div-le_of_le-mul, mul-le-mul}
use native.Mathlib.Omega.{arith}
use Rattle.num.proofs.Ratio.{recip-below, recip-div}
use Rattle.vitals.specs.Divide.{inverse}
use Rattle.vitals.proofs.steps.divide.Divisor.divide.Goals as goal

-- a mean of numbers of 16 bits, over at most 32,767 of them
module _ (d x : ℕ) (some : 1 ≤ d) (few : d ≤ 32767) (small : x ≤ d * 65535) where
  enough : (65535 + 1) * d * d < 2 ^ 46
  enough = let h : d * d ≤ 32767 * 32767 = mul-le-mul few few in omega arith

  mean-small : x / d ≤ 65535
  mean-small = div-le_of_le-mul d small

  fits : x * inverse d < 2 ^ 64
  fits = omega (arith, recip-below (2 ^ 46) d 65535 x some enough mean-small)

  divided : x * inverse d / 2 ^ 46 ≡ x / d
  divided = recip-div (2 ^ 46) d 65535 x some enough mean-small

pub overflow_mul-result : goal.overflow_mul-result
overflow_mul-result c =
    rw (c.from.ensures, c.args.self.exact) (record { fits = fits c.args.self.by c.args.total c.args.self.some c.args.self.few c.requires })

pub returns : goal.returns
returns c =
    rw (c.from.ensures, c.args.self.exact) (divided c.args.self.by c.args.total c.args.self.some c.args.self.few c.requires)
