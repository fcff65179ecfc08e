-- Twice a part meets the contract: its two halves' sums, which fit together. Assumes nothing.
use mathlib.Core.Path.{◌≡◌, sym, ap, ◌∙◌}
use mathlib.Core.List.{List}
use Prim.Native.Nat.{ℕ, ◌+◌, ◌/◌}
use native.Mathlib.Omega.{arith}
use borrow.Author.Rules.{sfits_of}
use lib.IntN.{ℤ, ◌+ℤ◌}
use mir.Syntax.{w32}
use mir.Val.{SFits, to_z, of_z}
use mir.Facts.{to_z-of_z}
use Rattle.num.proofs.Abs.{sfits-abs}
use Rattle.num.proofs.Dot.{part-split}
use Rattle.vitals.specs.Steps.{part_of, Summable}
use Rattle.vitals.proofs.steps.part.TwicePart.sum.Goals as goal

module _ (a b : List ℤ) (fits : Summable a b) (k m : ℕ) {x y : ℤ} (ex : x ≡ part_of a b k m) (ey : y ≡ part_of a b (k + m) m) where
  whole : x +ℤ y ≡ part_of a b k (m + m)
  whole = rw (ex, ey) (sym (part-split a b k m m))

  doubled-fits : SFits w32 (x +ℤ y)
  doubled-fits = rw whole (sfits-abs {w = w32} (part_of a b k (m + m)) (omega (arith, fits k (m + m))))

  doubled : to_z w32 (of_z w32 (x +ℤ y)) ≡ part_of a b k (m + m)
  doubled = to_z-of_z doubled-fits ∙ whole

pub overflow_add-result : goal.overflow_add-result
overflow_add-result g c =
    doubled-fits c.args.a.now c.args.b.now c.requires.3 c.args.k (c.args.m / 2) (to_z-of_z {w = w32} (sfits_of c.sum.type_inv) ∙ c.sum.ensures) (to_z-of_z {w = w32} (sfits_of c.sum-2.type_inv) ∙ c.sum-2.ensures)

pub returns : goal.returns
returns g c =
    let e : c.args.m / 2 + c.args.m / 2 ≡ c.args.m = omega (arith, c.requires.0) in
    doubled c.args.a.now c.args.b.now c.requires.3 c.args.k (c.args.m / 2) (to_z-of_z {w = w32} (sfits_of c.sum.type_inv) ∙ c.sum.ensures) (to_z-of_z {w = w32} (sfits_of c.sum-2.type_inv) ∙ c.sum-2.ensures)
    ∙ ap (part_of c.args.a.now c.args.b.now c.args.k) e
