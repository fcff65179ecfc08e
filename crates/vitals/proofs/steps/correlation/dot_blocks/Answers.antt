-- `dot_blocks` meets its contract: the products past n are 0. Assumes nothing.
use mathlib.Core.Path.{◌≡◌, refl, sym, ◌∙◌}
use Prim.Native.Nat.{◌+◌, ◌*◌, ◌≤◌}
use native.Mathlib.Omega.{arith}
use borrow.Author.Rules.{sfits_of}
use lib.ListN.{take}
use lib.IntN.{◌+ℤ◌}
use mir.Syntax.{w32}
use mir.Val.{SFits, to_z, of_z}
use mir.Facts.{to_z-of_z}
use Rattle.std.proofs.lemmas.Grind.{div_ceil_times}
use Rattle.num.specs.Sum.{dot_z}
use Rattle.num.proofs.Abs.{sfits-abs}
use Rattle.num.proofs.Dot.{dot-split, dot-cut}
use Rattle.vitals.specs.Steps.{block_len}
use Rattle.vitals.proofs.steps.correlation.dot_blocks.Goals as goal

module _ (c : goal.After-sum-sum) where
  more : to_z w32 c.loop-i.sum-bits +ℤ to_z w32 (of_z w32 c.sum-sum.result) ≡ dot_z (take ((c.loop-i.i + 1) * block_len) c.args.a.now) c.args.b.now
  more =
      let e : (c.loop-i.i + 1) * block_len ≡ c.loop-i.i * block_len + block_len = omega arith in
      rw (c.loop-i.invariant, to_z-of_z (sfits_of c.sum-sum.type_inv), c.sum-sum.ensures, e) (sym (dot-split (c.loop-i.i * block_len) block_len c.args.a.now c.args.b.now))

  fits : SFits w32 (to_z w32 c.loop-i.sum-bits +ℤ to_z w32 (of_z w32 c.sum-sum.result))
  fits =
      rw more (sfits-abs {w = w32} (dot_z (take ((c.loop-i.i + 1) * block_len) c.args.a.now) c.args.b.now) (omega (arith, c.requires.2 0 ((c.loop-i.i + 1) * block_len))))

pub loop-i-init : goal.loop-i-init
unfolding dot_z
loop-i-init c = refl

pub overflow_add-sum : goal.overflow_add-sum
overflow_add-sum c = fits c

pub loop-i-preserved : goal.loop-i-preserved
loop-i-preserved c = to_z-of_z (fits c) ∙ more c

pub returns : goal.returns
returns c =
    let past : c.args.n ≤ c.loop-i.i * block_len = omega (arith, div_ceil_times c.args.n 64 (omega arith), c.div_ceil-i-end.ensures, c.loop-i-test.false) in
    c.loop-i.invariant ∙ dot-cut c.args.n (c.loop-i.i * block_len) c.args.a.now c.args.b.now past c.requires.3
