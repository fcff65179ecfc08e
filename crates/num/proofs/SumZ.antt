-- Laws of `sum_z`: its size, its parts, and the sum of a part of a list that grows at its end and shrinks at its start. Assumes nothing.
use mathlib.Core.Path.{◌≡◌, sym, ap, ◌∙◌}
use mathlib.Core.List.{List, [], ◌∷◌, ◌++◌, map, map-append}
use Prim.Native.Nat.{ℕ, zero, suc, ◌+◌, ◌*◌, ◌≤◌, ◌<◌}
use native.Mathlib.Numerals.{add-one}
use native.Mathlib.Omega.{arith}
use lib.IntN.{ℤ, pos, nat_abs, ◌+ℤ◌, ◌-ℤ◌, +ℤ_assoc, +ℤ_comm, +ℤ_idl, +ℤ_idr, +ℤ-neg_ℤ_cancel}
use lib.ListN.{length, get_or, take, length-take}
use lib.Seq.{take-suc, drop-append-le, slice, slice-cons}
use Rattle.num.specs.Sum.{sum_z}
use Rattle.num.proofs.Abs.{abs-add}

-- n numbers of size at most B add up to at most B · n
pub sum-size : (B : ℕ) (xs : List ℤ) → ((k : ℕ) → k < length xs → nat_abs (get_or xs k (pos 0)) ≤ B) → nat_abs (sum_z xs) ≤ B * length xs
unfolding sum_z
sum-size B [] f = omega arith
sum-size B (x ∷ xs) f =
    let k = sum-size B xs (λ j h. f (suc j) (omega arith)) in let h : nat_abs x ≤ B = f zero (omega arith) in
    omega (arith, abs-add x (sum_z xs))

pub sum-append : (xs ys : List ℤ) → sum_z (xs ++ ys) ≡ sum_z xs +ℤ sum_z ys
unfolding sum_z
sum-append [] ys = sym (+ℤ_idl (sum_z ys))
sum-append (x ∷ xs) ys = ap (λ (z : ℤ). x +ℤ z) (sum-append xs ys) ∙ sym (+ℤ_assoc x (sum_z xs) (sum_z ys))

pub sum_one : (x : ℤ) → sum_z (x ∷ []) ≡ x
unfolding sum_z
sum_one x = +ℤ_idr x

-- one number more
pub sum-snoc : (xs : List ℤ) (x : ℤ) → sum_z (xs ++ (x ∷ [])) ≡ sum_z xs +ℤ x
sum-snoc xs x = sum-append xs (x ∷ []) ∙ ap (λ (z : ℤ). sum_z xs +ℤ z) (sum_one x)

-- the same of what is made of a list
pub sum-map-snoc : {A : Type 0} (f : A → ℤ) (xs : List A) (x : A) → sum_z (map f (xs ++ (x ∷ []))) ≡ sum_z (map f xs) +ℤ f x
sum-map-snoc f xs x = ap sum_z (map-append f xs (x ∷ [])) ∙ sum-snoc (map f xs) (f x)

-- the first k numbers and one more
pub sum-take-more : (xs : List ℤ) (k : ℕ) → k < length xs → sum_z (take (k + 1) xs) ≡ sum_z (take k xs) +ℤ get_or xs k (pos 0)
sum-take-more xs k h = rw (add-one, take-suc xs k (pos 0) h) (sum-snoc (take k xs) (get_or xs k (pos 0)))

-- the numbers from lo to before hi
module _ (x : List ℤ) (lo hi : ℕ) where
  -- one more at the end
  pub sum-grown : lo ≤ hi → hi < length x → sum_z (slice lo (hi + 1) x) ≡ sum_z (slice lo hi x) +ℤ get_or x hi (pos 0)
  sum-grown h k =
      let long : lo ≤ length (take hi x) = omega (arith, length-take hi x) in
      rw (add-one, take-suc x hi (pos 0) k, drop-append-le lo (take hi x) (get_or x hi (pos 0) ∷ []) long) (sum-snoc (slice lo hi x) (get_or x hi (pos 0)))

  -- one less at the start
  pub sum-shrunk : lo < hi → hi ≤ length x → sum_z (slice (lo + 1) hi x) ≡ sum_z (slice lo hi x) -ℤ get_or x lo (pos 0)
  unfolding sum_z
  sum-shrunk h k =
      let v : ℤ = get_or x lo (pos 0) in
      let rest : ℤ = sum_z (slice (suc lo) hi x) in
      rw (add-one, slice-cons lo hi x (pos 0) h k) (sym (ap (λ (z : ℤ). z -ℤ v) (+ℤ_comm v rest) ∙ +ℤ-neg_ℤ_cancel rest v))
