-- Sums over a list do not depend on its order, and follow a replaced element. Assumes nothing.
use mathlib.Core.Path.{◌≡◌, refl, ap, ◌∙◌}
use mathlib.Core.List.{List, [], ◌∷◌, ◌++◌, Permᴰ}
use Prim.Native.Nat.{ℕ, zero, suc, ◌+◌, ◌<◌}
use native.Mathlib.Numerals.{add-one}
use native.Mathlib.Omega.{arith}
use lib.ListN.{length, take, get_or, set}
use lib.Seq.{take-suc}
use Rattle.window.specs.Sums.{total_by}

-- for every sum in which two terms can be exchanged
module _ {A : Type 0} (add : A → A → A) (none : A) (exchange : (a b c : A) → add a (add b c) ≡ add b (add a c)) (f : ℕ → A) where
  pub total-perm : {xs ys : List ℕ} → Permᴰ xs ys → total_by add none f xs ≡ total_by add none f ys
  unfolding total_by
  total-perm Permᴰ.nil = refl
  total-perm (Permᴰ.cons e p) = cc (total-perm p, e)
  total-perm (Permᴰ.swap {a} {b} {a'} {b'} {l} d e) = exchange (f a) (f b) (total_by add none f l) ∙ cc (d, e)
  total-perm (Permᴰ.trans p q) = total-perm p ∙ total-perm q

  -- with the old element given back, the sum after a store is the sum before with the new one
  pub total-set : (xs : List ℕ) (i v : ℕ) → i < length xs → add (f (get_or xs i 0)) (total_by add none f (set xs i v)) ≡ add (f v) (total_by add none f xs)
  unfolding total_by
  total-set [] i v h = absurd (omega arith)
  total-set (x ∷ xs) zero v h = exchange (f x) (f v) (total_by add none f xs)
  total-set (x ∷ xs) (suc i) v h =
      exchange (f (get_or xs i 0)) (f x) (total_by add none f (set xs i v)) ∙ ap (add (f x)) (total-set xs i v (omega arith)) ∙ exchange (f x) (f v) (total_by add none f xs)

  -- the sum of one element more
  total-snoc : (xs : List ℕ) (x : ℕ) → total_by add none f (xs ++ (x ∷ [])) ≡ add (f x) (total_by add none f xs)
  unfolding total_by
  total-snoc [] x = refl
  total-snoc (y ∷ ys) x = ap (add (f y)) (total-snoc ys x) ∙ exchange (f y) (f x) (total_by add none f ys)

  pub total-take-suc : (xs : List ℕ) (i : ℕ) → i < length xs → total_by add none f (take (i + 1) xs) ≡ add (f (get_or xs i 0)) (total_by add none f (take i xs))
  total-take-suc xs i h = rw (add-one i, take-suc xs i 0 h) (total-snoc (take i xs) (get_or xs i 0))
