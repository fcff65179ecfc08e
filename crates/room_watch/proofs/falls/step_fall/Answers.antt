-- `room_watch::falls::step_fall` meets its contract. Assumes nothing.
use Rattle.room_watch.proofs.Machine.{steps}
use Rattle.room_watch.proofs.falls.step_fall.Goals as goal

pub returns : goal.returns
returns c =
    steps c.args.config c.args.words.now c.args.verdict c.args.wander c.args.time c.from.result c.is_some.result c.phase.result c.push_mut-event.new.self c.push_mut-event.result
    c.in_default.not-Warming c.phase.ensures c.push_mut-event.ensures c.from.ensures c.is_some.ensures
