-- The laws of `root`: it is the largest number whose square is at most its argument, and the only one with its two bounds. Assumes nothing.
use mathlib.Core.Path.{◌≡◌, refl}
use mathlib.Core.Bool.{Bool, true, false}
use Prim.Native.Nat.{ℕ, zero, suc, ◌+◌, ◌*◌, ◌/◌, ◌≤◌, ◌<◌}
use native.Mathlib.Nat.{le_refl, lt_of_le_of_lt}
use native.Mathlib.Omega.{arith}
use borrow.Author.Tests.{leb-true, leb-false}
use lib.Dec.{leb}
use Rattle.num.specs.Root.{Largest, pick, or_next, root_in, root}
use Rattle.num.proofs.Squares.{square-lt}

record Bounds (v r : ℕ) : Type 0 where
  fits : r * r ≤ v
  next : v < (r + 1) * (r + 1)

-- where the root is r or r + 1, `or_next` is the root
decided : (v r : ℕ) → r * r ≤ v → v < (r + 2) * (r + 2) → Bounds v (or_next v r)
decided v r low high = go (leb ((r + 1) * (r + 1)) v) refl
  where
    go : (b : Bool) → leb ((r + 1) * (r + 1)) v ≡ b → Bounds v (pick b (r + 1) r)
    go true e = record { fits = leb-true _ _ e; next = omega arith }
    go false e = record { fits = low; next = leb-false _ _ e }

bounds : (n v : ℕ) → v ≤ n → Bounds v (root_in n v)
unfolding root_in
bounds zero v h = record { fits = omega arith; next = omega arith }
bounds (suc n) zero h = record { fits = omega arith; next = omega arith }
bounds (suc n) (suc v) h =
    let q = root_in n (suc v / 4) in
    let ih : Bounds (suc v / 4) q = bounds n (suc v / 4) (omega arith) in
    decided (suc v) (2 * q) (omega (arith, ih.fits)) (omega (arith, ih.next))

root-bounds : (v : ℕ) → Bounds v (root v)
unfolding root
root-bounds v = bounds v v (le_refl v)

pub root-fits : (v : ℕ) → root v * root v ≤ v
root-fits v = (root-bounds v).fits

pub root-next : (v : ℕ) → v < suc (root v) * suc (root v)
root-next v = omega (arith, (root-bounds v).next)

pub root_below : (v b : ℕ) → v < b * b → root v < b
root_below v b h = square-lt (root v) b (lt_of_le_of_lt (root-fits v) h)

pub root-largest : (v : ℕ) → Largest v (root v)
root-largest v =
    record { fits = root-fits v; most = λ s h. omega (arith, square-lt s (suc (root v)) (lt_of_le_of_lt h (root-next v))) }

pub root-unique : (v r : ℕ) → r * r ≤ v → v < suc r * suc r → r ≡ root v
root-unique v r low high = omega (arith, (root-largest v).most r low, root_below v (suc r) high)
