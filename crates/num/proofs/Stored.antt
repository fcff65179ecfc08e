-- A list that is filled from the front, told by its elements: what holds of each below k, and of the k-th as it is stored, holds of
-- each below k + 1. Assumes nothing.
use mathlib.Core.Path.{◌≡◌, sym, subst}
use mathlib.Core.List.{List}
use mathlib.Core.Logic.{by_cases}
use Prim.Native.Nat.{ℕ, ◌+◌, ◌<◌}
use native.Mathlib.Decide.{dec_lt}
use native.Mathlib.Omega.{arith}
use lib.ListN.{length, get_or, set}
use lib.Seq.{get_or-set_same, get_or-set_other}

module _ {A : Type 0} (P : ℕ → A → Type 0) (out : List A) (k : ℕ) (v d : A) where
  pub one_more : k < length out → ((j : ℕ) → j < k → P j (get_or out j d)) → P k v → (j : ℕ) → j < k + 1 → P j (get_or (set out k v) j d)
  one_more h before here j l =
      by_cases (dec_lt j k)
      (λ (i : j < k). subst (P j) (sym (get_or-set_other out k j v d (λ (e : j ≡ k). omega arith))) (before j i))
      (λ i. let e : k ≡ j = omega arith in subst (λ (m : ℕ). P m (get_or (set out k v) m d)) e (subst (P k) (sym (get_or-set_same out k v d h)) here))
