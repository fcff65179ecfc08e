-- Signed bytes, and what a pair of them has at most: amplitudes below 725, sectors below 8. Assumes nothing.
use mathlib.Core.Path.{◌≡◌, sym}
use mathlib.Core.Logic.{by_cases}
use Prim.Native.Nat.{ℕ, suc, ◌+◌, ◌-◌, ◌/◌, ◌%◌, ◌≤◌, ◌<◌}
use native.Mathlib.Decide.{dec_lt}
use native.Mathlib.Omega.{arith}
use borrow.Author.Tests.{le-ltb}
use lib.IntN.{ℤ, pos, negsuc, nat_abs}
use mir.Syntax.{w16}
use mir.Val.{SFits}
use Rattle.num.specs.Wrap.{mod_z}
use Rattle.num.proofs.Diff.{sub-lt, sub-ge}
use Rattle.num.proofs.Abs.{abs-sfits}
use Rattle.num.proofs.Wrap.{mod-lt, wrap16-fits}
use Rattle.csi.specs.Features.{amplitude_of}
use Rattle.csi.proofs.Rules.{amplitude-below}
use Rattle.phase.specs.Angle.{angle_of}
use Rattle.census.specs.Census.{bytes, signed_byte, sector_of, sector_in, amplitudes, sectors}

-- how far the k-th is from 0
pub byte-abs : (k : ℕ) → k < bytes → nat_abs (signed_byte k) ≡ (128 - k) + (k - 128)
byte-abs k l =
    by_cases (dec_lt k 128) (λ h. rw (sub-lt k 128 h) (omega arith)) (λ h. let m : 128 ≤ k = omega arith in rw (sub-ge k 128 m) (omega arith))

-- the bits of an angle, in eighths of a turn
pub sector-bits : (a : ℤ) → SFits w16 a → mod_z a 65536 / 8192 ≡ sector_of a
unfolding sector_of
sector-bits (pos n) h = let b = abs-sfits (pos n) h in let e : n % 65536 ≡ n = omega arith in rw (e, le-ltb n 0 (omega arith))
sector-bits (negsuc n) h =
    let b = abs-sfits (negsuc n) h in let e : n % 65536 ≡ n = omega arith in
    let m : suc n ≤ 65536 = omega arith in rw (e, sub-ge 65536 (suc n) m)

sector-lt : (im re : ℤ) → sector_in im re < sectors
unfolding angle_of
sector-lt im re = rw (sym (sector-bits (angle_of im re) (wrap16-fits _))) (omega (arith, mod-lt (angle_of im re)))

-- of every pair of signed bytes
pub amplitude-bound : (i j : ℕ) → i < bytes → j < bytes → amplitude_of (signed_byte i) (signed_byte j) < amplitudes
amplitude-bound i j h l = amplitude-below (signed_byte i) (signed_byte j) (omega (arith, byte-abs i h)) (omega (arith, byte-abs j l))

pub sector-bound : (i j : ℕ) → i < bytes → j < bytes → sector_in (signed_byte i) (signed_byte j) < sectors
sector-bound i j h l = sector-lt (signed_byte i) (signed_byte j)
