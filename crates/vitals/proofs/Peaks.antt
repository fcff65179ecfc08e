-- Two lists that are the same up to the lag hi + 1 have the same lag to read from. Assumes nothing.
use mathlib.Core.Path.{◌≡◌, refl}
use mathlib.Core.List.{List}
use mathlib.Core.Logic.{inl, inr}
use Prim.Native.Nat.{ℕ, zero, suc, ◌+◌, ◌-◌, ◌≤◌}
use native.Mathlib.Omega.{arith}
use lib.IntN.{ℤ}
use Rattle.num.specs.Lists.{first}
use Rattle.vitals.specs.Series.{at}
use Rattle.vitals.specs.Peak.{is_peak, highest, floor_of, peak_or, best_lag, ReadFrom}
use Rattle.vitals.proofs.Theorems.{highest-from, best-lag-is}

pub best-inside : (s : List ℤ) (hi : ℕ) → 2 ≤ hi → (2 ≤ best_lag s hi) × (best_lag s hi ≤ hi)
best-inside s hi h = go (best-lag-is s hi h)
  where
    go : ReadFrom s hi (best_lag s hi) → (2 ≤ best_lag s hi) × (best_lag s hi ≤ hi)
    go (inl f) = (f.low, f.high)
    go (inr n) = (n.1.low, n.1.high)

module _ (s t : List ℤ) (hi : ℕ) (same : (k : ℕ) → k ≤ hi + 1 → at s k ≡ at t k) where
  highest-same : (n : ℕ) → 2 + n ≤ hi → highest s n ≡ highest t n
  unfolding highest
  highest-same zero h = refl
  highest-same (suc n) h = rw (highest-same n (omega arith), same (3 + n) (omega arith), same (highest t n) (omega (arith, (highest-from t n).high))) refl

  first-same : (floor : ℤ) (k n : ℕ) → 1 ≤ k → k + n ≤ hi + 1 → first (is_peak s floor) k n ≡ first (is_peak t floor) k n
  unfolding first
  first-same floor k zero a b = refl
  first-same floor k (suc n) a b =
      rw (same k (omega arith), same (k - 1) (omega arith), same (k + 1) (omega arith), first-same floor (suc k) n (omega arith) (omega arith)) refl

  pub best-same : 2 ≤ hi → best_lag s hi ≡ best_lag t hi
  unfolding peak_or
  best-same h =
      rw (highest-same (hi - 2) (omega arith), same (highest t (hi - 2)) (omega (arith, (highest-from t (hi - 2)).high)), first-same (floor_of (at t (highest t (hi - 2)))) 2 (hi - 1) (omega arith) (omega arith))
      refl
