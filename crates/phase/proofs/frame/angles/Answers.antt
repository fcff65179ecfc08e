-- `phase::frame::angles` meets its contract: the angles of the one range, and behind them those of the other. Assumes nothing.
use mathlib.Core.Path.{◌≡◌, sym}
use mathlib.Core.List.{map}
use Prim.Native.Nat.{◌-◌}
use Rattle.std.proofs.Common.{rules}
use Rattle.csi.specs.Layout.{entries_of, up_from}
use Rattle.csi.proofs.Entries.{length-entries}
use Rattle.std.proofs.lemmas.List.{map-append}
use Rattle.phase.specs.Angle.{entry_angle}
use Rattle.phase.proofs.frame.angles.Goals as goal

pub split_at_mut-first-requires : goal.split_at_mut-first-requires
split_at_mut-first-requires c = let n = length-entries c.args.layout in search rules

pub range_angles-requires-2 : goal.range_angles-requires-2
range_angles-requires-2 c = let n = length-entries c.args.layout in search rules

pub returns : goal.returns
unfolding entries_of
returns c =
    let l = c.args.layout in let f = entry_angle c.args.iq.now in
    let n = length-entries l in
    let one : c.range_angles.new.out ≡ map f (up_from l.start (l.end - l.start)) = search rules in
    let two : c.range_angles-2.new.out ≡ map f (up_from l.start2 (l.end2 - l.start2)) = search rules in
    rw (one, two) (sym (map-append f (up_from l.start (l.end - l.start)) (up_from l.start2 (l.end2 - l.start2))))
