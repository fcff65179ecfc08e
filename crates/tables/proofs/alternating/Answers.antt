-- `tables::alternating` meets its contract: the loop has the series of the terms behind those that are left. Assumes nothing.
use mathlib.Core.Path.{refl}
use mathlib.Core.List.{[]}
use Rattle.std.proofs.Common.{rules}
use Rattle.tables.specs.Tables.{alternating}
use Rattle.tables.proofs.Terms.{last-fits, one-more, all-behind}
use Rattle.tables.proofs.alternating.Goals as goal

pub loop-a-init : goal.loop-a-init
unfolding alternating
loop-a-init c = record { behind = []; whole = search rules; is = refl; small = search rules }

pub less-x-requires : goal.less-x-requires
less-x-requires c = let e = c.in-Some.ensures.steps in let l = last-fits _ _ _ _ _ (rw e at c.loop-a.invariant) in (c.requires, l.0, l.1)

pub loop-a-preserved : goal.loop-a-preserved
loop-a-preserved c =
    let e = c.in-Some.ensures.steps in one-more _ _ _ _ _ (rw e at c.loop-a.invariant) c.less-x.result c.less-x.ensures.0 c.less-x.ensures.1

pub returns : goal.returns
returns c = all-behind _ _ _ _ c.loop-a.invariant c.in-None.ensures.steps.0
