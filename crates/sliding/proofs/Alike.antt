-- Two pairs of lists of n numbers are equal where they are number by number. Assumes nothing.
use mathlib.Core.Path.{◌≡◌, refl, ap}
use mathlib.Core.Bool.{Bool, ◌&&◌}
use mathlib.Core.List.{List, [], ◌∷◌}
use Prim.Native.Nat.{ℕ, suc, ◌<◌}
use native.Mathlib.Omega.{arith}
use lib.ListN.{length, get_or}
use Rattle.num.specs.Tests.{Tells}
use Rattle.num.proofs.Tests.{tells-iff, tells_both}

module _ {A : Type 0} (none : A) where
  same-list : (xs ys : List A) → length xs ≡ length ys → ((k : ℕ) → k < length xs → get_or xs k none ≡ get_or ys k none) → xs ≡ ys
  same-list [] [] e each = refl
  same-list [] (y ∷ ys) e each = absurd (omega arith)
  same-list (x ∷ xs) [] e each = absurd (omega arith)
  same-list (x ∷ xs) (y ∷ ys) e each = cc (each 0 (omega arith), same-list xs ys (omega arith) (λ k h. each (suc k) (omega arith)))

  pub alike-told : (n : ℕ) {fs gs fs' gs' : List A} → length fs ≡ n → length gs ≡ n → length fs' ≡ n → length gs' ≡ n → {a b r : Bool} → r ≡ (a && b) → Tells a (fs ≡ fs') → Tells b (gs ≡ gs')
      → Tells r ((k : ℕ) → k < n → (get_or fs k none ≡ get_or fs' k none) × (get_or gs k none ≡ get_or gs' k none))
  alike-told n {fs} {gs} {fs'} {gs'} lf lg lf' lg' {a} {b} {r} e ta tb =
      rw e
      (tells-iff (a && b)
      (λ both k h. (ap (λ (l : List A). get_or l k none) both.0, ap (λ (l : List A). get_or l k none) both.1))
      (λ each. (same-list fs fs' (omega arith) (λ k h. (each k (omega arith)).0), same-list gs gs' (omega arith) (λ k h. (each k (omega arith)).1)))
      (tells_both a b ta tb))
