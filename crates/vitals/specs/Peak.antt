-- The lag that the rate is read from (vitals.rs, `estimate`). s is the summed correlation, s_k that at lag k. Assumes nothing.
use Rattle.std.specs.Prelude.{ℕ, zero, suc, ◌+◌, ◌-◌, ◌≤◌, ◌<◌, ◌≡◌, Bool, true, false, cond, ◌&&◌, List, ◌⊎◌, leb, ℤ, pos, ◌-ℤ◌, ◌*ℤ◌, ◌≤ℤ◌, ◌<ℤ◌}
use Rattle.std.specs.Int.Signed.{le_z, lt_z, quot_z}
use Rattle.num.specs.Lists.{first}
use Rattle.vitals.specs.Series.{at}

-- s_k reaches the floor and both its neighbours
abbrev pub is_peak : List ℤ → ℤ → ℕ → Bool
is_peak s floor k = le_z floor (at s k) && (le_z (at s (k - 1)) (at s k) && le_z (at s (k + 1)) (at s k))

-- the lag of the highest of s_2, .., s_(2 + n), the lowest such lag
unfoldable pub highest : List ℤ → ℕ → ℕ
highest s zero = 2
highest s (suc n) = cond (le_z (at s (3 + n)) (at s (highest s n))) (highest s n) (3 + n)

-- what a peak has to reach: 15 % below a highest value that is positive
abbrev pub floor_of : ℤ → ℤ
floor_of g = cond (lt_z (pos 0) g) (g -ℤ quot_z (g *ℤ pos 15) (pos 100)) g

-- a, or b where a is past hi
abbrev pub up_to : (hi a b : ℕ) → ℕ
up_to hi a b = cond (leb a hi) a b

-- the first lag from 2 to hi that is a peak over the floor; b if there is none
unfoldable pub peak_or : List ℤ → ℕ → ℤ → ℕ → ℕ
peak_or s hi floor b = up_to hi (first (is_peak s floor) 2 (hi - 1)) b

-- the first lag from 2 to hi that is a peak; none such: the highest, lowest lag first
abbrev pub best_lag : List ℤ → ℕ → ℕ
best_lag s hi = peak_or s hi (floor_of (at s (highest s (hi - 2)))) (highest s (hi - 2))

-- What these come to (theorems in proofs/Theorems.antt). k has the highest of s_2, .., s_hi, and no lower lag has it
pub record Highest (s : List ℤ) (hi k : ℕ) : Type 0 where
  pub low : 2 ≤ k
  pub high : k ≤ hi
  pub most : (j : ℕ) → 2 ≤ j → j ≤ hi → at s j ≤ℤ at s k
  pub lowest : (j : ℕ) → 2 ≤ j → j < k → at s j <ℤ at s k

-- k is a peak over the floor, and no smaller lag from 2 on is
pub record FirstPeak (s : List ℤ) (hi : ℕ) (floor : ℤ) (k : ℕ) : Type 0 where
  pub low : 2 ≤ k
  pub high : k ≤ hi
  pub peak : is_peak s floor k ≡ true
  pub none_before : (j : ℕ) → 2 ≤ j → j < k → is_peak s floor j ≡ false

-- no lag from 2 to hi is one
abbrev pub NoPeak : List ℤ → ℕ → ℤ → Type 0
NoPeak s hi floor = (j : ℕ) → 2 ≤ j → j ≤ hi → is_peak s floor j ≡ false

-- the lag that is read from is the first peak over the floor, or the highest where no peak reaches it
abbrev pub ReadFrom : List ℤ → (hi k : ℕ) → Type 0
ReadFrom s hi k =
    FirstPeak s hi (floor_of (at s (highest s (hi - 2)))) k ⊎ (NoPeak s hi (floor_of (at s (highest s (hi - 2)))) × Highest s hi k)
