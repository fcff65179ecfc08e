-- Laws of `total`, of means, and of sums of products. Assumes nothing.
use mathlib.Core.Path.{◌≡◌, refl, sym, ap, subst, ◌∙◌}
use mathlib.Core.List.{List, [], ◌∷◌, ◌++◌}
use Prim.Native.Nat.{ℕ, zero, suc, ◌+◌, ◌*◌, ◌/◌, ◌≤◌, ◌<◌, min}
use native.Mathlib.Omega.{arith}
use native.Mathlib.Nat.{mul-add, mul-one, mul_comm, div-le_of_le-mul}
use native.Mathlib.Decide.{dec_le}
use lib.IntN.{ℤ, pos, ◌+ℤ◌, ◌*ℤ◌}
use lib.ListN.{length, get_or, take}
use lib.Seq.{take_all}
use Rattle.num.specs.Sum.{total, dot_z}

pub total-append : (xs ys : List ℕ) → total (xs ++ ys) ≡ total xs + total ys
unfolding total
total-append [] ys = omega arith
total-append (x ∷ xs) ys = let e = total-append xs ys in omega arith

-- one number more
pub total-snoc : (xs : List ℕ) (x : ℕ) → total (xs ++ (x ∷ [])) ≡ total xs + x
unfolding total
total-snoc xs x = let e = total-append xs (x ∷ []) in omega arith

-- a sum of numbers that are at most B each, with one more
pub sum-le : (k : ℕ) {B s x : ℕ} → s ≤ B * k → x ≤ B → s + x ≤ B * (k + 1)
sum-le k {B} {s} {x} h l = rw (mul-add B k 1, mul-one B) (omega arith)

pub total-le : (B : ℕ) (xs : List ℕ) → ((k : ℕ) → k < length xs → get_or xs k 0 ≤ B) → total xs ≤ B * length xs
unfolding total
total-le B [] f = omega arith
total-le B (x ∷ xs) f = omega (arith, f zero (omega arith), total-le B xs (λ k h. f (suc k) (omega arith)))

-- a mean is at most the most
pub mean-le : (B n s : ℕ) → s ≤ B * n → s / n ≤ B
mean-le B n s h = div-le_of_le-mul n (subst (λ (m : ℕ). s ≤ m) (mul_comm B n) h)

pub dot-nil : (xs : List ℤ) → dot_z xs [] ≡ pos 0
unfolding dot_z
dot-nil [] = refl
dot-nil (x ∷ xs) = refl

-- a sum of products ends where the shorter list does
pub dot-first : (n : ℕ) (xs ys : List ℤ) → length ys ≤ n → dot_z (take n xs) ys ≡ dot_z xs ys
unfolding dot_z
dot-first zero xs [] h = dot-nil (take zero xs) ∙ sym (dot-nil xs)
dot-first zero xs (y ∷ ys) h = absurd (omega arith)
dot-first (suc n) [] ys h = refl
dot-first (suc n) (x ∷ xs) [] h = refl
dot-first (suc n) (x ∷ xs) (y ∷ ys) h = ap (λ z. x *ℤ y +ℤ z) (dot-first n xs ys (omega arith))

-- the products of the first n elements are all that there are of the first m, where n is the least of m and the lengths
pub dot-terms : (xs ys : List ℤ) (n m : ℕ) → n ≡ min (length xs) (min (length ys) m) → dot_z (take m xs) ys ≡ dot_z (take n xs) ys
dot-terms xs ys n m e = go (dec_le m n) (dec_le (length ys) n)
  where
    go : Dec (m ≤ n) → Dec (length ys ≤ n) → dot_z (take m xs) ys ≡ dot_z (take n xs) ys
    go (yes h) k = let i : m ≡ n = omega arith in ap (λ (j : ℕ). dot_z (take j xs) ys) i
    go (no g) (yes h) = dot-first m xs ys (omega arith) ∙ sym (dot-first n xs ys h)
    go (no g) (no h) = rw (take_all m xs (omega arith), take_all n xs (omega arith))
