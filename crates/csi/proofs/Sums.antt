-- `total` is the sum that an iterator's `sum` answers. Assumes nothing.
use mathlib.Core.Path.{◌≡◌, refl}
use mathlib.Core.List.{List, map}
use Prim.Native.Nat.{ℕ}
use Rattle.std.specs.List.{sum, sum_by}
use Rattle.std.proofs.lemmas.List.Recursion.{is_sum_by}
use Rattle.num.specs.Sum.{total}

pub sum_total : (xs : List ℕ) → total xs ≡ sum xs
unfolding total
sum_total xs = is_sum_by total (λ x. x) refl (λ _ _. refl) xs

pub sum_by_total : {X : Type 0} (f : X → ℕ) (xs : List X) → total (map f xs) ≡ sum_by f xs
unfolding total
sum_by_total f xs = is_sum_by (λ ys. total (map f ys)) f refl (λ _ _. refl) xs
