-- A search upwards: what it finds, and a loop in which what is left to search gives what the whole search gives. Assumes nothing.
use mathlib.Core.Path.{◌≡◌, refl, ◌∙◌}
use mathlib.Core.Bool.{Bool, true, false, cond}
use Prim.Native.Nat.{ℕ, zero, suc, ◌+◌, ◌-◌, ◌≤◌, ◌<◌}
use native.Mathlib.Numerals.{add-one}
use native.Mathlib.Decide.{ℕ_discrete}
use native.Mathlib.Omega.{arith}
use Rattle.num.specs.Lists.{first}

first-yes : (p : ℕ → Bool) (k n : ℕ) → p k ≡ true → first p k (suc n) ≡ k
unfolding first
first-yes p k n e = rw e

first-no : (p : ℕ → Bool) (k n : ℕ) → p k ≡ false → first p k (suc n) ≡ first p (suc k) n
unfolding first
first-no p k n e = rw e

first-none : (p : ℕ → Bool) (k : ℕ) → first p k 0 ≡ k
unfolding first
first-none p k = refl

-- a search of b, .., e - 1 that has come to k
pub record Searching (p : ℕ → Bool) (b e k : ℕ) : Type 0 where
  pub rest : first p b (e - b) ≡ first p k (e - k)

pub begun : (p : ℕ → Bool) (b e : ℕ) → Searching p b e b
begun p b e = record { rest = refl }

module _ (p : ℕ → Bool) {b e k : ℕ} (h : Searching p b e k) where
  pub found : k < e → p k ≡ true → first p b (e - b) ≡ k
  found l y =
      let s : e - k ≡ suc (e - suc k) = omega arith in
      h.rest ∙ rw s (first-yes p k (e - suc k) y)

  pub passed : k < e → p k ≡ false → Searching p b e (k + 1)
  passed l n =
      let s : e - k ≡ suc (e - suc k) = omega arith in
      record { rest = h.rest ∙ rw (s, add-one) (first-no p k (e - suc k) n) }

  pub over : e ≤ k → first p b (e - b) ≡ k
  over l =
      let s : e - k ≡ 0 = omega arith in
      h.rest ∙ rw s (first-none p k)

-- what is found: it lies in the range or just past it, it passes unless it lies past it, and none before it passes
pub record Found (p : ℕ → Bool) (k n r : ℕ) : Type 0 where
  pub low : k ≤ r
  pub high : r ≤ k + n
  pub passes : r < k + n → p r ≡ true
  pub none_before : (j : ℕ) → k ≤ j → j < r → p j ≡ false

module _ (p : ℕ → Bool) (k n : ℕ) where
  found_here : p k ≡ true → Found p k (suc n) k
  found_here e = record { low = omega arith; high = omega arith; passes = λ h. e; none_before = λ j a b. absurd (omega arith) }

  found-later : (r : ℕ) → p k ≡ false → Found p (suc k) n r → Found p k (suc n) r
  found-later r e f = record {
    low = omega (arith, f.low);
    high = omega (arith, f.high);
    passes = λ h. f.passes (omega arith);
    none_before = λ j a b. none j a b (ℕ_discrete j k);
  }
    where
      none : (j : ℕ) → k ≤ j → j < r → Dec (j ≡ k) → p j ≡ false
      none j a b (yes q) = rw q e
      none j a b (no q) = f.none_before j (omega arith) b

  found-either : (t : Bool) (r : ℕ) → p k ≡ t → Found p (suc k) n r → Found p k (suc n) (cond t k r)
  found-either true r e f = found_here e
  found-either false r e f = found-later r e f

pub first_found : (p : ℕ → Bool) (k n : ℕ) → Found p k n (first p k n)
unfolding first
first_found p k zero = record { low = omega arith; high = omega arith; passes = λ h. absurd (omega arith); none_before = λ j a b. absurd (omega arith) }
first_found p k (suc n) = found-either p k n (p k) (first p (suc k) n) refl (first_found p (suc k) n)
