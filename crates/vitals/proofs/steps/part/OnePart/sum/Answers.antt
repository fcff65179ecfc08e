-- One product meets the contract: a product of two samples fits. Assumes nothing.
use mathlib.Core.Path.{◌≡◌, sym, ◌∙◌}
use Prim.Native.Nat.{◌≤◌}
use native.Mathlib.Nat.{mul-le-mul}
use native.Mathlib.Omega.{arith}
use lib.IntN.{ℤ, nat_abs, ◌*ℤ◌}
use mir.Facts.{to_z-of_z}
use mir.Syntax.{w32}
use mir.Val.{SFits, to_z, of_z}
use Rattle.std.proofs.Common.{rules}
use Rattle.num.proofs.Abs.{mul-fits}
use Rattle.num.proofs.Dot.{part-one}
use Rattle.num.proofs.Read.{read-abs}
use Rattle.vitals.specs.Series.{at}
use Rattle.vitals.proofs.steps.part.OnePart.sum.Goals as goal

product : (x y : ℤ) → nat_abs x ≤ 32768 → nat_abs y ≤ 32768 → to_z w32 (of_z w32 (to_z w32 (of_z w32 x) *ℤ to_z w32 (of_z w32 y))) ≡ x *ℤ y
product x y hx hy =
    let f : SFits w32 (x *ℤ y) = mul-fits x y (omega (arith, mul-le-mul hx hy)) in
    rw (read-abs w32 x (omega arith), read-abs w32 y (omega arith)) (to_z-of_z {w = w32} f)

pub returns : goal.returns
returns c =
    let a = c.args.a.now in let b = c.args.b.now in let k = c.args.k in
    let ex : c.from.result ≡ at a k = c.from.ensures ∙ search rules in
    let ey : c.from-2.result ≡ at b k = c.from-2.ensures ∙ search rules in
    product c.from.result c.from-2.result (search rules) (search rules)
    ∙ rw (ex, ey, c.requires.0) (sym (part-one a b k (omega (arith, c.requires)) (omega (arith, c.requires))))
