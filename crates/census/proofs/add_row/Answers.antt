-- `census::add_row` meets its contract: the loop of `Counting`. Assumes nothing.
use native.Mathlib.Omega.{arith}
use Rattle.num.proofs.Counting.{none-counted, count-le, counted, all-counted}
use Rattle.census.proofs.add_row.Goals as goal

pub loop-v-init : goal.loop-v-init
loop-v-init c = none-counted _ _

pub overflow_add-counts : goal.overflow_add-counts
overflow_add-counts c =
    let v = c.from.result in
    record { fits = omega (arith, count-le _ _ c.loop-v.invariant v, c.requires.space v, c.requires.whole, c.loop-v-test.true) }

pub loop-v-preserved : goal.loop-v-preserved
loop-v-preserved c =
    counted _ _ c.loop-v.invariant c.from.result c.from.ensures (omega (arith, c.from.ensures, c.requires.places c.loop-v.v-index (omega (arith, c.requires.whole, c.loop-v-test.true)))) (omega (arith, c.loop-v-test.true))

pub returns : goal.returns
returns c = all-counted _ _ c.loop-v.invariant (omega (arith, c.requires.whole, c.loop-v-test.false))
