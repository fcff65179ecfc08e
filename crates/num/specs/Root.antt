-- The integer square root: `root v` is the largest r with r * r ≤ v (`proofs/Root.antt` has that as the law `root-largest`).
-- It computes at once at any numeral of 64 bits and beyond. Assumes nothing.
use Rattle.std.specs.Prelude.{ℕ, zero, suc, ◌+◌, ◌-◌, ◌*◌, ◌/◌, ◌≤◌, ◌<◌, Bool, true, false, leb}

-- r is the largest number whose square is at most v
pub record Largest (v r : ℕ) : Type 0 where
  pub fits : r * r ≤ v
  pub most : (s : ℕ) → s * s ≤ v → s ≤ r

-- the first where the test holds, else the second
abbrev pub pick : Bool → ℕ → ℕ → ℕ
pick true a b = a
pick false a b = b

-- r + 1 where its square is at most v, else r
abbrev pub or_next : ℕ → ℕ → ℕ
or_next v r = pick (leb ((r + 1) * (r + 1)) v) (r + 1) r

-- a binary digit of the root for each digit of v to the base 4, of which there are n at most: twice the root of v / 4, or one more
unfoldable pub root_in : ℕ → ℕ → ℕ
root_in zero v = zero
root_in (suc n) zero = zero
root_in (suc n) (suc v) = or_next (suc v) (2 * root_in n (suc v / 4))

-- the largest r with r * r ≤ v
unfoldable pub root : ℕ → ℕ
unfolding root_in
root v = root_in v v

-- r is less than 1 from the square root of n, on either side
pub record Near (n r : ℕ) : Type 0 where
  pub over : (r - 1) * (r - 1) < n
  pub under : n < (r + 1) * (r + 1)
