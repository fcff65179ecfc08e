-- What the chosen lag is: the first peak over the floor, or, where there is none, the highest value's lowest lag. Assumes nothing.
use mathlib.Core.Path.{◌≡◌, refl, subst}
use mathlib.Core.Bool.{Bool, true, false, cond}
use mathlib.Core.List.{List}
use mathlib.Core.Logic.{◌⊎◌, inl, inr}
use Prim.Native.Nat.{ℕ, zero, suc, ◌+◌, ◌-◌, ◌≤◌}
use native.Mathlib.Decide.{dec_le, ℕ_discrete}
use native.Mathlib.Omega.{arith}
use borrow.Author.Tests.{le-leb, lt-leb}
use lib.IntN.{ℤ}
use lib.Signed.{le_z, ◌≤ℤ◌, ◌<ℤ◌, ≤ℤ_refl}
use Rattle.num.specs.Lists.{first}
use Rattle.num.proofs.First.{Found, first_found}
use Rattle.num.proofs.Order.{≤ℤ-<ℤ-trans, <ℤ-≤ℤ, le_z-true, le_z-false}
use Rattle.vitals.specs.Series.{at}
use Rattle.vitals.specs.Peak.{is_peak, highest, floor_of, peak_or, best_lag, up_to, Highest, FirstPeak, NoPeak, ReadFrom}

-- one lag more: it is higher than the highest so far, or not
module _ (s : List ℤ) (n k : ℕ) (h : Highest s (2 + n) k) where
  stays : at s (3 + n) ≤ℤ at s k → Highest s (3 + n) k
  stays e = record { low = h.low; high = omega (arith, h.high); most = λ j a b. go j a b (ℕ_discrete j (3 + n)); lowest = h.lowest }
    where
      go : (j : ℕ) → 2 ≤ j → j ≤ 3 + n → Dec (j ≡ 3 + n) → at s j ≤ℤ at s k
      go j a b (yes q) = rw q e
      go j a b (no f) = h.most j a (omega arith)

  rises : at s k <ℤ at s (3 + n) → Highest s (3 + n) (3 + n)
  rises e = record { low = omega arith; high = omega arith; most = λ j a b. go j a b (ℕ_discrete j (3 + n)); lowest = λ j a b. ≤ℤ-<ℤ-trans (h.most j a (omega arith)) e }
    where
      go : (j : ℕ) → 2 ≤ j → j ≤ 3 + n → Dec (j ≡ 3 + n) → at s j ≤ℤ at s (3 + n)
      go j a b (yes q) = rw q (≤ℤ_refl (at s (3 + n)))
      go j a b (no f) = <ℤ-≤ℤ (≤ℤ-<ℤ-trans (h.most j a (omega arith)) e)

  either : (t : Bool) → le_z (at s (3 + n)) (at s k) ≡ t → Highest s (3 + n) (cond t k (3 + n))
  either true e = stays (le_z-true (at s (3 + n)) (at s k) e)
  either false e = rises (le_z-false (at s (3 + n)) (at s k) e)

pub highest-from : (s : List ℤ) (n : ℕ) → Highest s (2 + n) (highest s n)
unfolding highest
highest-from s zero = record { low = omega arith; high = omega arith; most = λ j a b. only j a b; lowest = λ j a b. absurd (omega arith) }
  where
    only : (j : ℕ) → 2 ≤ j → j ≤ 2 → at s j ≤ℤ at s 2
    only j a b = let e : j ≡ 2 = omega arith in rw e (≤ℤ_refl (at s 2))
highest-from s (suc n) =
    let e : 2 + suc n ≡ 3 + n = omega arith in
    rw e (either s n (highest s n) (highest-from s n) (le_z (at s (3 + n)) (at s (highest s n))) refl)

-- the fallback's value is the highest, and its lag the lowest that has it
pub highest-is : (s : List ℤ) (hi : ℕ) → 2 ≤ hi → Highest s hi (highest s (hi - 2))
highest-is s hi h =
    let e : 2 + (hi - 2) ≡ hi = omega arith in
    subst (λ (k : ℕ). Highest s k (highest s (hi - 2))) e (highest-from s (hi - 2))

-- a search for a peak: the first, or b where there is none
module _ (s : List ℤ) (hi : ℕ) (h : 2 ≤ hi) (floor : ℤ) (b : ℕ) where
  searched : (r : ℕ) → Found (is_peak s floor) 2 (hi - 1) r → Dec (r ≤ hi) → FirstPeak s hi floor (up_to hi r b) ⊎ (NoPeak s hi floor × (up_to hi r b ≡ b))
  searched r f (yes l) = inl (rw (le-leb r hi l) (record { low = f.low; high = l; peak = f.passes (omega arith); none_before = f.none_before }))
  searched r f (no g) = inr (λ j a k. f.none_before j a (omega arith), rw (lt-leb r hi (omega arith)))

  peak-or-is : FirstPeak s hi floor (peak_or s hi floor b) ⊎ (NoPeak s hi floor × (peak_or s hi floor b ≡ b))
  unfolding peak_or
  peak-or-is = searched (first (is_peak s floor) 2 (hi - 1)) (first_found (is_peak s floor) 2 (hi - 1)) (dec_le (first (is_peak s floor) 2 (hi - 1)) hi)

-- the lag that is read from: a peak that reaches the floor, with none before it; or else the highest
pub best-lag-is : (s : List ℤ) (hi : ℕ) → 2 ≤ hi → ReadFrom s hi (best_lag s hi)
best-lag-is s hi h = go (peak-or-is s hi h (floor_of (at s top)) top)
  where
    top : ℕ
    top = highest s (hi - 2)

    go : FirstPeak s hi (floor_of (at s (highest s (hi - 2)))) (best_lag s hi) ⊎ (NoPeak s hi (floor_of (at s (highest s (hi - 2)))) × (best_lag s hi ≡ highest s (hi - 2))) → ReadFrom s hi (best_lag s hi)
    go (inl f) = inl f
    go (inr n) = inr (n.0, rw n.1 (highest-is s hi h))
