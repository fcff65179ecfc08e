-- The rules of specs/Rules.antt. Assumes nothing.
use mathlib.Core.Path.{refl}
use Prim.Native.Nat.{◌+◌, ◌*◌, ◌≤◌, ◌<◌}
use native.Mathlib.Omega.{arith}
use native.Mathlib.Nat.{mul-le-mul}
use lib.IntN.{ℤ, nat_abs}
use lib.ListN.{get_or}
use Rattle.num.specs.Wrap.{signed8}
use Rattle.num.proofs.Byte.{byte_le}
use Rattle.num.proofs.Root.{root_below}
use Rattle.csi.specs.Features.{amplitude_of, amplitude_at}
use Rattle.csi.specs.Layout.{layouts, entries_of, up_from}
use Rattle.csi.specs.Rules.{LayoutCounts, AmplitudesAtMost724}

pub layout-counts : LayoutCounts
unfolding layouts entries_of up_from
layout-counts = refl

-- of numbers that are at most 128 from 0
pub amplitude-below : (im re : ℤ) → nat_abs im ≤ 128 → nat_abs re ≤ 128 → amplitude_of im re < 725
amplitude-below im re h l = root_below _ 725 (omega (arith, mul-le-mul h h, mul-le-mul l l))

pub amplitudes-at-most-724 : AmplitudesAtMost724
unfolding amplitude_at
amplitudes-at-most-724 iq k bytes =
    let below = amplitude-below (signed8 (get_or iq (2 * k) 0)) (signed8 (get_or iq (2 * k + 1) 0)) (byte_le _ (bytes (2 * k))) (byte_le _ (bytes (2 * k + 1))) in
    omega arith
