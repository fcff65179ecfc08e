-- What holds of each element of a list: of a list in which one is replaced, of one element many times; and with what holds of the default, at
-- every place. Assumes nothing.
use mathlib.Core.List.{List, [], ◌∷◌}
use mathlib.Core.Logic.{by_cases}
use Prim.Native.Nat.{ℕ, zero, suc, ◌<◌}
use native.Mathlib.Decide.{dec_lt}
use native.Mathlib.Omega.{arith}
use lib.ListN.{length, get_or, set, replicate, get_or-eq_default}

module _ {A : Type 0} (P : A → Type 0) where
  pub at_every : (d : A) → P d → (xs : List A) → ((k : ℕ) → k < length xs → P (get_or xs k d)) → (k : ℕ) → P (get_or xs k d)
  at_every d past xs f k =
      by_cases (dec_lt k (length xs)) (λ h. f k h) (λ g. rw (get_or-eq_default xs d {n = k} (omega arith)) past)

  pub each_set : (u : List A) (i : ℕ) (v d : A) → P v → ((j : ℕ) → P (get_or u j d)) → (j : ℕ) → P (get_or (set u i v) j d)
  each_set [] i v d p f j = f j
  each_set (x ∷ xs) zero v d p f zero = p
  each_set (x ∷ xs) zero v d p f (suc j) = f (suc j)
  each_set (x ∷ xs) (suc i) v d p f zero = f zero
  each_set (x ∷ xs) (suc i) v d p f (suc j) = each_set xs i v d p (λ m. f (suc m)) j

  pub each-replicate : (n : ℕ) (a d : A) → P a → P d → (j : ℕ) → P (get_or (replicate n a) j d)
  each-replicate zero a d p q j = q
  each-replicate (suc n) a d p q zero = p
  each-replicate (suc n) a d p q (suc j) = each-replicate n a d p q j
