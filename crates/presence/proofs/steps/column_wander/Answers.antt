-- `presence::steps::column_wander` meets its contract: every product fits, since a deviation is at most half the range (`Range.antt`). Assumes nothing.
use mathlib.Core.Path.{◌≡◌, sym, ap, ◌∙◌}
use Prim.Native.Nat.{ℕ, ◌*◌, ◌/◌, ◌≤◌}
use native.Mathlib.Omega.{arith}
use Rattle.num.specs.Root.{root}
use Rattle.presence.specs.Wander.{against, column_wander, deviation16}
use Rattle.presence.proofs.Range.{half-range, sum-squared, squares-scaled, deviation-le, mean-le, largest, against-mean}
use Rattle.presence.proofs.steps.column_wander.Goals as goal

-- the deviation that the code computes, and its size
module _ (c : goal.After-scaled_root) where
  deviation-is : c.scaled_root.result / c.args.rows.w
      ≡ deviation16 c.args.rows.w c.args.sum c.args.sumsq
  deviation-is =
      ap (λ (n : ℕ). n / c.args.rows.w) (c.scaled_root.ensures ∙ ap (λ (v : ℕ). root (256 * v)) (rw c.from-s.ensures at c.saturating_sub-var_w2.ensures))

  deviation-small : c.scaled_root.result / c.args.rows.w ≤ 524280
  deviation-small =
      rw deviation-is (deviation-le c.args.rows.w c.args.sum c.args.sumsq c.requires)

pub share-mean-requires : goal.share-mean-requires
share-mean-requires c = rw c.from-s.ensures (omega (arith, mean-le c.args.rows.w c.args.sum c.args.sumsq c.requires))

pub returns-then-mean-eq0 : goal.returns-then-mean-eq0
unfolding column_wander against
returns-then-mean-eq0 c = rw (sym (rw c.from-s.ensures at c.share-mean.ensures) ∙ c.if-mean-eq0.true)

pub overflow_mul-rows : goal.overflow_mul-rows
overflow_mul-rows c =
    omega (arith, squares-scaled c.args.rows.w c.args.sum c.args.sumsq c.requires, largest c.args.rows.w c.args.sum c.args.sumsq c.requires c.args.rows.few)

pub overflow_mul-s : goal.overflow_mul-s
overflow_mul-s c =
    rw c.from-s.ensures
    (omega (arith, sum-squared c.args.rows.w c.args.sum c.args.sumsq c.requires, largest c.args.rows.w c.args.sum c.args.sumsq c.requires c.args.rows.few))

pub overflow_mul-var_w2 : goal.overflow_mul-var_w2
overflow_mul-var_w2 c =
    omega (arith, rw c.from-s.ensures at c.saturating_sub-var_w2.ensures, half-range c.args.rows.w c.args.sum c.args.sumsq c.requires, largest c.args.rows.w c.args.sum c.args.sumsq c.requires c.args.rows.few)

pub share-std16-requires : goal.share-std16-requires
share-std16-requires c = deviation-small c

pub overflow_cast-result : goal.overflow_cast-result
overflow_cast-result c = omega (arith, c.share-std16.ensures, deviation-small c.before)

pub overflow_mul-result : goal.overflow_mul-result
overflow_mul-result c = omega (arith, c.share-std16.ensures, deviation-small c.before)

pub overflow_cast-result-2 : goal.overflow_cast-result-2
overflow_cast-result-2 c = omega (arith, rw c.from-s.ensures at c.share-mean.ensures, mean-le c.args.rows.w c.args.sum c.args.sumsq c.requires)

pub overflow_mul-result-2 : goal.overflow_mul-result-2
overflow_mul-result-2 c = omega (arith, rw c.from-s.ensures at c.share-mean.ensures, mean-le c.args.rows.w c.args.sum c.args.sumsq c.requires)

pub returns : goal.returns
unfolding column_wander
returns c =
    rw (c.share-std16.ensures, rw c.from-s.ensures at c.share-mean.ensures, deviation-is c.before)
    (sym (against-mean (c.args.sum / c.args.rows.w) (deviation16 c.args.rows.w c.args.sum c.args.sumsq) (λ z. c.if-mean-eq0.false ((rw c.from-s.ensures at c.share-mean.ensures) ∙ z))))
