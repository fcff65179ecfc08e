-- The check sum from the last number back. Assumes nothing.
use mathlib.Core.Path.{◌≡◌, refl, sym, ◌∙◌}
use mathlib.Core.List.{List, [], ◌∷◌, ◌++◌, append_assoc, append-nil}
use Prim.Native.Nat.{ℕ, suc, ◌+◌, ◌%◌, ◌^◌}
use native.Mathlib.Omega.{arith}
use lib.ListN.{length}
use Rattle.std.specs.List.{AllZip, push}
use Rattle.num.specs.Sum.{total}
use Rattle.cases.specs.Cases.{weighted, check_sum}

-- one place more for each
weighted-up : (p : ℕ) (xs : List ℕ) → weighted (suc p) xs ≡ weighted p xs + total xs
unfolding weighted total
weighted-up p [] = refl
weighted-up p (x ∷ xs) = rw (weighted-up (suc p) xs) (omega arith)

-- what is left of the numbers, and the values of those behind it with their two sums
pub record Behind {A : Type 0} (R : A → ℕ → Type 0) (numbers left : List A) (behind sum : ℕ) : Type 0 where
  pub done : List A
  pub values : List ℕ
  pub whole : numbers ≡ left ++ done
  pub each : AllZip R done values
  pub behind_is : behind ≡ total values % 2 ^ 32
  pub sum_is : sum ≡ weighted 1 values % 2 ^ 32

module _ {A : Type 0} {R : A → ℕ → Type 0} {numbers : List A} where
  pub none_behind : Behind R numbers numbers 0 0
  unfolding weighted total
  none_behind = record { done = []; values = []; whole = sym (append-nil numbers); each = tt; behind_is = refl; sum_is = refl }

  pub one_behind : {left left' : List A} {behind sum : ℕ} → Behind R numbers left behind sum → (n : A) → left ≡ push left' n → (x : ℕ) → R n x
      → (behind' : ℕ) → behind' ≡ (behind + x) % 2 ^ 32 → (sum' : ℕ) → sum' ≡ (sum + behind') % 2 ^ 32 → Behind R numbers left' behind' sum'
  unfolding weighted total
  one_behind {left} {left'} {behind} {sum} b n e x r behind' eb sum' es =
      record {
        done = n ∷ b.done;
        values = x ∷ b.values;
        whole = b.whole ∙ rw e (append_assoc left' (n ∷ []) b.done);
        each = (r, b.each);
        behind_is = omega (arith, eb, b.behind_is);
        sum_is = omega (arith, es, eb, b.behind_is, b.sum_is, weighted-up 1 b.values);
      }

  pub all-behind : {left : List A} {behind sum : ℕ} → Behind R numbers left behind sum → length left ≡ 0 → (values : List ℕ) × AllZip R numbers values × (sum ≡ check_sum values)
  all-behind {left = []} b e = (b.values, rw b.whole b.each, b.sum_is)
  all-behind {left = n ∷ left} b e = absurd (omega (arith, e))
