-- What the contracts of the inner steps say. Assumes nothing.
use Rattle.std.specs.Prelude.{◌≡◌, List, ℕ, ◌+◌, ◌-◌, ◌*◌, ◌≤◌, min, length, take, drop, ℤ, pos, nat_abs, ◌+ℤ◌}
use Rattle.std.proofs.Math.Seq.{slice}
use Rattle.num.specs.Limits.{max_subcarriers}
use Rattle.num.specs.Sum.{sum_z, dot_z}
use Rattle.vitals.specs.Series.{at}
use Rattle.vitals.specs.Correlation.{energy, corr_of}

-- each sample has 16 bits
abbrev pub Samples : List ℤ → Type 0
Samples x = (k : ℕ) → nat_abs (at x k) ≤ 32768

-- the samples from lo to before hi, and their sum
pub record Slid (x : List ℤ) (lo hi : ℕ) (sum : ℤ) : Type 0 where
  pub ordered : lo ≤ hi
  pub inside : hi ≤ length x
  pub total : sum ≡ sum_z (slice lo hi x)

-- where the window around sample i begins and ends
pub record Around (x : List ℤ) (half i lo hi : ℕ) : Type 0 where
  pub low : lo ≡ i - half
  pub high : hi ≡ min (i + half + 1) (length x)

-- the products of m samples from k on
abbrev pub part_of : (a b : List ℤ) → (k m : ℕ) → ℤ
part_of a b k m = dot_z (take m (drop k a)) (drop k b)

-- every such sum fits 32 bits
abbrev pub Summable : (a b : List ℤ) → Type 0
Summable a b = (k m : ℕ) → nat_abs (part_of a b k m) ≤ 2147483647

-- zeros from sample n on
abbrev pub ZerosFrom : ℕ → List ℤ → Type 0
ZerosFrom n x = (k : ℕ) → n ≤ k → at x k ≡ pos 0

-- the samples of a block, whose products are summed at a time
abbrev pub block_len : ℕ
block_len = 64

-- the largest sum of the columns' correlations, each of which is at most 2000
abbrev pub most_summed : ℕ
most_summed = 2000 * max_subcarriers

-- no sum is above b in size
abbrev pub Within : ℕ → List ℤ → Type 0
Within b s = (k : ℕ) → nat_abs (at s k) ≤ b

-- t is s with the correlation of x added at each lag from 1 to top
pub record Added (x : List ℤ) (top : ℕ) (s t : List ℤ) : Type 0 where
  pub first : at t 0 ≡ at s 0
  pub each : (k : ℕ) → 1 ≤ k → k ≤ top → at t k ≡ at s k +ℤ corr_of x k

-- the same, for one column more than `used`; a series without energy is left out
pub record Joined (x : List ℤ) (top used : ℕ) (s : List ℤ) (r : ℕ) (t : List ℤ) : Type 0 where
  pub none : energy x ≡ 0 → (r ≡ used) × (t ≡ s)
  pub some : (energy x ≡ 0 → ⊥) → (r ≡ used + 1) × Added x top s t
  pub size : Within (2000 * r) t
