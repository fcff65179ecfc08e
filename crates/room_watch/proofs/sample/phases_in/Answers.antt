-- `room_watch::sample::phases_in` meets its contract. Assumes nothing.
use Rattle.room_sensing.proofs.Samples.{frame-serves}
use Rattle.room_watch.proofs.sample.phases_in.Goals as goal

pub phases-requires : goal.phases-requires
phases-requires c =
    let s = c.args.sample in rw (s.tag_is, s.iq_is) (frame-serves s.bytes.now s.fine)

pub returns : goal.returns
returns c =
    let s = c.args.sample in rw (c.phases.ensures, s.tag_is, s.iq_is)
