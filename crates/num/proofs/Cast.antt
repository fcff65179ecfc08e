-- A number read at a signed type of its own width, as the code's `cast_signed` reads it, and what a wrapped number is by it. Assumes nothing.
use mathlib.Core.Path.{◌≡◌, sym, ap, ◌∙◌}
use Prim.Native.Nat.{ℕ, suc, ◌+◌, ◌-◌, ◌%◌, ◌^◌, ◌<◌}
use native.Mathlib.Decide.{dec_lt}
use native.Mathlib.Omega.{arith}
use lib.IntN.{ℤ, pos, negsuc, sub_ℕ, ◌+ℤ◌}
use borrow.Author.Tests.{lt-ltb, le-ltb}
use mir.Syntax.{w8, w16, w32, w64}
use mir.Val.{SFits, to_z, of_z}
use Rattle.std.specs.Int.{int_wrap}
use Rattle.num.specs.Wrap.{mod_z, wrap16, signed8, signed32}
use Rattle.num.proofs.Diff.{sub-lt, sub-ge}
use Rattle.num.proofs.Wrap.{mod-lt}

pub cast8 : (b : ℕ) → b < 256 → to_z w8 b ≡ signed8 b
unfolding signed8
cast8 b h = go (dec_lt b 128)
  where
    go : Dec (b < 128) → to_z w8 b ≡ signed8 b
    go (yes l) = rw (lt-ltb b 128 l)
    go (no f) = rw (le-ltb b 128 (omega arith), sub-lt b 256 h)

pub cast32 : (b : ℕ) → b < 4294967296 → to_z w32 b ≡ signed32 b
unfolding signed32
cast32 b h = go (dec_lt b 2147483648)
  where
    go : Dec (b < 2147483648) → to_z w32 b ≡ signed32 b
    go (yes l) = rw (lt-ltb b 2147483648 l)
    go (no f) = rw (le-ltb b 2147483648 (omega arith), sub-lt b 4294967296 h)

-- a wrapped number is its remainder, read at the signed type
read-by : (r u : ℕ) → r < 65536 → u ≡ (r + 32768) % 65536 → Dec (r < 32768) → to_z w16 r ≡ sub_ℕ u 32768
read-by r u h e (yes l) = rw (lt-ltb r 32768 l) (sym (sub-ge u 32768 (omega arith) ∙ ap pos (omega arith)))
read-by r u h e (no f) = rw (le-ltb r 32768 (omega arith)) (sym (sub-lt u 32768 (omega arith) ∙ ap negsuc (omega arith)))

moved-by : (n : ℕ) → Dec (n < 32768) → mod_z (sub_ℕ 32768 (suc n)) 65536 ≡ (65536 - suc (n % 65536) + 32768) % 65536
moved-by n (yes l) = rw (sub-ge 32768 (suc n) (omega arith)) (omega arith)
moved-by n (no f) = rw (sub-lt 32768 (suc n) (omega arith)) (omega arith)

moved : (z : ℤ) → mod_z (z +ℤ pos 32768) 65536 ≡ (mod_z z 65536 + 32768) % 65536
moved (pos n) = omega arith
moved (negsuc n) = moved-by n (dec_lt n 32768)

pub wrap16-is : (z : ℤ) → to_z w16 (mod_z z 65536) ≡ wrap16 z
unfolding wrap16
wrap16-is z = read-by (mod_z z 65536) (mod_z (z +ℤ pos 32768) 65536) (mod-lt z) (moved z) (dec_lt (mod_z z 65536) 32768)

wrap-mod : (z : ℤ) → int_wrap w16 z ≡ to_z w16 (mod_z z 65536)
unfolding int_wrap
wrap-mod (pos n) = ap (to_z w16) (omega arith)
wrap-mod (negsuc n) = ap (to_z w16) (omega arith)

-- what std's methods call a wrapped number
pub int_wrap-is : (z : ℤ) → int_wrap w16 z ≡ wrap16 z
int_wrap-is z = wrap-mod z ∙ wrap16-is z

-- the low 16 of 64 bits
pub low16 : (z : ℤ) → SFits w64 z → of_z w64 z % 65536 ≡ mod_z z 65536
low16 (pos n) f = omega arith
low16 (negsuc n) f = let h : n < 2 ^ 63 = f.sfits in omega arith
