-- `room_watch::sample::features_in` meets its contract. Assumes nothing.
use Rattle.csi.proofs.Shape.{features-most}
use Rattle.room_sensing.specs.Sensing.{iq_of, tag_of}
use Rattle.room_sensing.proofs.Samples.{frame-serves}
use Rattle.room_watch.proofs.sample.features_in.Goals as goal

pub features-plain-requires : goal.features-plain-requires
features-plain-requires c =
    let s = c.args.sample in rw (s.tag_is, s.iq_is) (frame-serves s.bytes.now s.fine)

pub normalised-requires : goal.normalised-requires
normalised-requires c =
    let s = c.args.sample in let b = s.bytes.now in
    rw (c.features-plain.ensures, s.tag_is, s.iq_is) (features-most (iq_of b) (tag_of b) (frame-serves b s.fine))

pub returns : goal.returns
returns c =
    let s = c.args.sample in rw (c.normalised.ensures, c.features-plain.ensures, s.tag_is, s.iq_is)
