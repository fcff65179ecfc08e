-- The ranges that a test of settings stands for; the library's clamp. Assumes nothing.
use mathlib.Core.Path.{◌≡◌, refl}
use mathlib.Core.Bool.{Bool, true, false}
use Prim.Native.Nat.{ℕ, ◌≤◌}
use borrow.Author.Tests.{leb-true}
use lib.Dec.{leb, ltb}
use lib.IntN.{ℤ, pos, negsuc}
use Rattle.std.specs.Int.{int_max, int_min}
use Rattle.num.specs.Clamp.{clamp_z}
use Rattle.num.proofs.Logic.{both}
use Rattle.vitals.specs.Band.{usable}
use Rattle.vitals.specs.declared.band.Band.{Band}

pub record Usable (b : Band) (rate : ℕ) : Type 0 where
  pub slow : 1 ≤ rate
  pub fast : rate ≤ 1000
  pub low : 1 ≤ b.lo_mhz
  pub high : 1 ≤ b.hi_mhz

pub usable-facts : (b : Band) (rate : ℕ) → usable b rate ≡ true → Usable b rate
unfolding usable
usable-facts b rate e =
    let one = both (leb 1 rate) _ e in let two = both (leb rate 1000) _ one.1 in let three = both (leb 1 b.lo_mhz) _ two.1 in
    record {
      slow = leb-true 1 rate one.0;
      fast = leb-true rate 1000 two.0;
      low = leb-true 1 b.lo_mhz three.0;
      high = leb-true 1 b.hi_mhz three.1;
    }

-- the library's `clamp` between a negative limit and one that is not
pub clamp-is : (a b : ℕ) (z : ℤ) → int_max (negsuc a) (int_min z (pos b)) ≡ clamp_z (negsuc a) (pos b) z
clamp-is a b (negsuc n) = refl
clamp-is a b (pos n) = go (ltb b n) refl
  where
    go : (t : Bool) → ltb b n ≡ t → int_max (negsuc a) (int_min (pos n) (pos b)) ≡ clamp_z (negsuc a) (pos b) (pos n)
    go true e = rw e refl
    go false e = rw e refl
