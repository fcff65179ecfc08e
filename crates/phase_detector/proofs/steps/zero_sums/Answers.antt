-- `phase_detector::steps::zero_sums` meets its contract: each row adds 16,384 to a sum of cosines. Assumes nothing.
use mathlib.Core.Path.{sym}
use Prim.Native.Nat.{◌*◌, ◌^◌, ◌<◌}
use native.Mathlib.Omega.{arith}
use mir.Syntax.{w32}
use mir.Facts.{to_z_pos}
use Rattle.phase_detector.proofs.Angles.{zero-cosines, zero-sines}
use Rattle.phase_detector.proofs.steps.zero_sums.Goals as goal

pub returns : goal.returns
returns c =
    let small : c.args.w * 16384 < 2 ^ 31 = omega (arith, c.requires) in
    rw (to_z_pos w32 small, sym (zero-cosines c.args.w), sym (zero-sines c.args.w))
