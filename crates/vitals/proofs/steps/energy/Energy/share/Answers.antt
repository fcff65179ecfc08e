-- `Energy::share` meets its contract: a comparison tells which of the two the product gave. Assumes nothing.
use mathlib.Core.Path.{◌≡◌}
use Prim.Native.Nat.{ℕ, ◌-◌, ◌*◌, ◌/◌, ◌^◌, ◌≤◌, ◌<◌}
use native.Mathlib.Nat.{mul-le-mul, div-le_of_le-mul}
use native.Mathlib.Omega.{arith}
use Rattle.num.proofs.Ratio.{ratio-le, near-most, near-over, near-right}
use Rattle.vitals.specs.Energy.{most_energy, per_energy}
use Rattle.vitals.proofs.steps.energy.Energy.share.Goals as goal

module _ (size n e f : ℕ) (some : 1 ≤ e) (most : e ≤ most_energy) (few-samples : n ≤ 512) (factor : f ≡ per_energy n e) (part : size ≤ e) where
  few : size ≤ 2 ^ 44
  few = omega (arith, part, most)

  abbrev top : ℕ
  top = 1000 * n

  abbrev near : ℕ
  near = size * f / 2 ^ 44

  small : top ≤ 512000
  small = omega (arith, few-samples)

  product : size * f < 2 ^ 64
  product = rw factor (omega (arith, ratio-le size top e (2 ^ 44) some part, small, few))

  scaled : size * top < 2 ^ 64
  scaled = let h : size ≤ most_energy = omega (arith, part, most) in omega (arith, mul-le-mul h small)

  near-small : near ≤ 512001
  near-small =
      let q : size * top / e ≤ 512000 = div-le_of_le-mul e (mul-le-mul part small) in
      rw factor (omega (arith, near-most size top e (2 ^ 44) some few (omega arith), q))

  one_more : size * top < near * e → near - 1 ≡ size * top / e
  one_more h = rw factor (near-over size top e (2 ^ 44) some few (omega arith) (rw factor at h))

  right : near * e ≤ size * top → near ≡ size * top / e
  right h = rw factor (near-right size top e (2 ^ 44) some few (omega arith) (rw factor at h))

pub overflow_mul-near : goal.overflow_mul-near
overflow_mul-near c = let e = c.args.self in record { fits = product c.args.size e.n e.sum e.factor e.some e.most e.few e.scaled c.requires }

pub overflow_cast-result : goal.overflow_cast-result
overflow_cast-result c = let e = c.args.self in record { fits = omega (arith, near-small c.args.size e.n e.sum e.factor e.some e.most e.few e.scaled c.requires) }

pub returns-then-size-self : goal.returns-then-size-self
returns-then-size-self c = let e = c.args.self in one_more c.args.size e.n e.sum e.factor e.some e.most e.few e.scaled c.requires c.if-size-self.true

pub returns-else-size-self : goal.returns-else-size-self
returns-else-size-self c = let e = c.args.self in right c.args.size e.n e.sum e.factor e.some e.most e.few e.scaled c.requires (omega (arith, c.if-size-self.false))
