-- `phase::steps::phases` meets its contract. Assumes nothing.
use lib.ListN.{length, length-map}
use Rattle.std.proofs.Common.{rules}
use Rattle.csi.specs.Layout.{entries_of}
use Rattle.csi.proofs.Answers.{served}
use Rattle.csi.proofs.Entries.{usable}
use Rattle.phase.specs.Angle.{entry_angle}
use Rattle.phase.proofs.Answers.{frame-phases}
use Rattle.phase.proofs.Points.{two-points}
use Rattle.phase.proofs.steps.phases.Goals as goal

pub layout_of-layout-requires : goal.layout_of-layout-requires
layout_of-layout-requires c = (served (length c.args.iq.now) c.args.tag c.requires).0

pub slice_bounds-angles-end : goal.slice_bounds-angles-end
slice_bounds-angles-end c = let u = usable c.args.tag (served (length c.args.iq.now) c.args.tag c.requires).0 in search rules

pub slice_bounds-used-end : goal.slice_bounds-used-end
slice_bounds-used-end c = let u = usable c.args.tag (served (length c.args.iq.now) c.args.tag c.requires).0 in search rules

pub angles-requires : goal.angles-requires
angles-requires c = let s = served (length c.args.iq.now) c.args.tag c.requires in let u = usable c.args.tag s.0 in search rules

pub line_off-requires : goal.line_off-requires
line_off-requires c =
    let s = served (length c.args.iq.now) c.args.tag c.requires in let u = usable c.args.tag s.0 in let two = two-points c.args.tag s.0 in
    let n = length-map (entries_of c.layout_of-layout.result) (entry_angle c.args.iq.now) in
    search rules

pub returns : goal.returns
returns c =
    frame-phases c.args.iq.now c.args.tag c.layout_of-layout.result c.layout_of-layout.ensures c.count-n.result c.count-n.ensures c.angles.new.out c.line_off.result c.angles.ensures c.line_off.ensures
