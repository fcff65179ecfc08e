-- `map` of functions that agree on a list, and of a list's elements. Assumes nothing.
use mathlib.Core.Path.{◌≡◌, refl}
use mathlib.Core.List.{List, [], ◌∷◌, map}
use Prim.Native.Nat.{ℕ, zero, suc, ◌≤◌, ◌<◌}
use native.Mathlib.Omega.{arith}
use lib.ListN.{length, get_or}
use Rattle.num.specs.Sum.{total}

-- two functions that agree on each element of a list
pub map-agree : (f g : ℕ → ℕ) (xs : List ℕ) → ((k : ℕ) → k < length xs → f (get_or xs k 0) ≡ g (get_or xs k 0)) → map f xs ≡ map g xs
map-agree f g [] h = refl
map-agree f g (x ∷ xs) h = let e = map-agree f g xs (λ k l. h (suc k) (omega arith)) in let d = h zero (omega arith) in cc

-- an element is at most the sum
pub element-le : (xs : List ℕ) (k : ℕ) → get_or xs k 0 ≤ total xs
unfolding total
element-le [] k = omega arith
element-le (x ∷ xs) zero = omega arith
element-le (x ∷ xs) (suc k) = let h = element-le xs k in omega arith
