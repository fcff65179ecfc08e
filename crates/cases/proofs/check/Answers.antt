use mathlib.Core.Path.{refl}
use Rattle.cases.proofs.Sum.{none_behind, one_behind, all-behind}
use Rattle.cases.proofs.check.Goals as goal

pub loop-n-init : goal.loop-n-init
loop-n-init g c = rw (c.into_iter-n-iterator.ensures.into_iter_gives, c.rev-n-items.ensures.source, c.iter.ensures.rest) none_behind

pub loop-n-preserved : goal.loop-n-preserved
loop-n-preserved g c = one_behind c.loop-n.invariant _ c.in-Some.ensures.steps _ c.into-behind.ensures _ refl _ refl

pub returns : goal.returns
returns g c = all-behind c.loop-n.invariant c.in-None.ensures.steps.0
