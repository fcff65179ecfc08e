-- `phase::line::LineSums::of` meets its contract: the sums so far and those of the rest make the whole. Assumes nothing.
use mathlib.Core.Path.{◌≡◌, refl}
use lib.IntN.{pos, ◌+ℤ◌, ◌-ℤ◌}
use lib.ListN.{get_or}
use Rattle.std.proofs.Common.{rules}
use Rattle.num.specs.Wrap.{wrap16}
use Rattle.phase.proofs.Walks.{none-summed, summed, all-summed}
use Rattle.phase.proofs.line.LineSums.of.Goals as goal

pub loop-k-init : goal.loop-k-init
loop-k-init c = none-summed c.args.angles.now

pub overflow_add-su : goal.overflow_add-su
overflow_add-su c =
    let t = summed c.loop-k.invariant c.loop-k-test.true c.requires.1 in
    let e : c.on-walk.result.place ≡ c.loop-k.walk.place +ℤ wrap16 (get_or c.args.angles.now c.loop-k.k (pos 0) -ℤ c.loop-k.walk.angle) = search rules in
    search rules

pub overflow_mul-sku : goal.overflow_mul-sku
overflow_mul-sku c =
    let t = summed c.loop-k.invariant c.loop-k-test.true c.requires.1 in
    let e : c.on-walk.result.place ≡ c.loop-k.walk.place +ℤ wrap16 (get_or c.args.angles.now c.loop-k.k (pos 0) -ℤ c.loop-k.walk.angle) = search rules in
    search rules

pub overflow_add-sku : goal.overflow_add-sku
overflow_add-sku c =
    let t = summed c.loop-k.invariant c.loop-k-test.true c.requires.1 in
    let e : c.on-walk.result.place ≡ c.loop-k.walk.place +ℤ wrap16 (get_or c.args.angles.now c.loop-k.k (pos 0) -ℤ c.loop-k.walk.angle) = search rules in
    search rules

pub loop-k-preserved : goal.loop-k-preserved
loop-k-preserved c =
    let t = summed c.loop-k.invariant c.loop-k-test.true c.requires.1 in
    let e : c.on-walk.result.place ≡ c.loop-k.walk.place +ℤ wrap16 (get_or c.args.angles.now c.loop-k.k (pos 0) -ℤ c.loop-k.walk.angle) = search rules in
    search rules

pub returns : goal.returns
returns c = (refl, all-summed c.loop-k.invariant c.loop-k-test.false)
