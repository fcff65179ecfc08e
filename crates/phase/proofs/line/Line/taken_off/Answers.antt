-- `phase::line::Line::taken_off` meets its contract: what is done stands in out, and 0 behind it. Assumes nothing.
use mathlib.Core.Path.{◌≡◌}
use lib.IntN.{pos, ◌+ℤ◌, ◌-ℤ◌}
use lib.ListN.{get_or}
use Rattle.std.proofs.Common.{rules}
use Rattle.num.specs.Wrap.{wrap16}
use Rattle.phase.proofs.Walks.{none_left, one_left, all_left}
use Rattle.phase.proofs.line.Line.taken_off.Goals as goal

pub loop-k-init : goal.loop-k-init
loop-k-init c = none_left c.args.self.slope c.args.self.icpt c.args.angles.now

pub residual-requires : goal.residual-requires
residual-requires c =
    let e : c.on-walk.result.place ≡ c.loop-k.walk.place +ℤ wrap16 (get_or c.args.angles.now c.loop-k.k (pos 0) -ℤ c.loop-k.walk.angle) = search rules in
    let p = (one_left c.loop-k.invariant c.loop-k-test.true c.requires).place in
    search rules

pub loop-k-preserved : goal.loop-k-preserved
loop-k-preserved c =
    let e : c.on-walk.result.place ≡ c.loop-k.walk.place +ℤ wrap16 (get_or c.args.angles.now c.loop-k.k (pos 0) -ℤ c.loop-k.walk.angle) = search rules in
    let p = one_left c.loop-k.invariant c.loop-k-test.true c.requires in
    search rules

pub returns : goal.returns
returns c = all_left c.loop-k.invariant c.loop-k-test.false
