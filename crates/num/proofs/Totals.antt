-- Totals that the entries of a list are added to, one by one, and their bound. Assumes nothing.
use mathlib.Core.Path.{◌≡◌, refl, sym, ap, ◌∙◌}
use mathlib.Core.List.{List, [], ◌∷◌}
use Prim.Native.Nat.{ℕ, zero, suc, ◌+◌, ◌≤◌, ◌<◌}
use native.Mathlib.Numerals.{add-one}
use native.Mathlib.Omega.{arith}
use lib.ListN.{length, get_or, take, set}
use Rattle.num.specs.Lists.{plus}

plus_none : (xs : List ℕ) → plus xs [] ≡ xs
unfolding plus
plus_none [] = refl
plus_none (x ∷ xs) = refl

pub length-plus : (xs ys : List ℕ) → length (plus xs ys) ≡ length xs
unfolding plus
length-plus [] [] = refl
length-plus (x ∷ xs) [] = refl
length-plus [] (y ∷ ys) = refl
length-plus (x ∷ xs) (y ∷ ys) = ap suc (length-plus xs ys)

pub plus-at : (xs ys : List ℕ) (i : ℕ) → i < length xs → get_or (plus xs ys) i 0 ≡ get_or xs i 0 + get_or ys i 0
unfolding plus
plus-at [] ys i h = absurd (omega arith)
plus-at (x ∷ xs) [] i h = let e : get_or (x ∷ xs) i 0 ≡ get_or (x ∷ xs) i 0 + 0 = omega arith in e
plus-at (x ∷ xs) (y ∷ ys) zero h = refl
plus-at (x ∷ xs) (y ∷ ys) (suc i) h = plus-at xs ys i (omega arith)

-- the entries from i on are as they were
plus-past : (xs ys : List ℕ) (i : ℕ) → get_or (plus xs (take i ys)) i 0 ≡ get_or xs i 0
unfolding plus
plus-past xs ys zero = ap (λ (l : List ℕ). get_or l 0 0) (plus_none xs)
plus-past xs [] (suc i) = ap (λ (l : List ℕ). get_or l (suc i) 0) (plus_none xs)
plus-past [] (y ∷ ys) (suc i) = refl
plus-past (x ∷ xs) (y ∷ ys) (suc i) = plus-past xs ys i

-- one entry more is added
plus-next : (xs ys : List ℕ) (i : ℕ) → i < length xs → i < length ys → set (plus xs (take i ys)) i (get_or xs i 0 + get_or ys i 0) ≡ plus xs (take (suc i) ys)
unfolding plus
plus-next [] ys i h k = absurd (omega arith)
plus-next (x ∷ xs) [] i h k = absurd (omega arith)
plus-next (x ∷ xs) (y ∷ ys) zero h k = ap (λ (l : List ℕ). (x + y) ∷ l) (sym (plus_none xs))
plus-next (x ∷ xs) (y ∷ ys) (suc i) h k = ap (λ (l : List ℕ). (x + y) ∷ l) (plus-next xs ys i (omega arith) (omega arith))

-- the front of the sums is the sums of the front
pub take-plus : (n : ℕ) (xs ys : List ℕ) → length ys ≡ n → n ≤ length xs → take n (plus xs ys) ≡ plus (take n xs) ys
unfolding plus
take-plus zero [] [] e h = refl
take-plus zero (x ∷ xs) [] e h = refl
take-plus (suc n) xs [] e h = absurd (omega arith)
take-plus zero xs (y ∷ ys) e h = absurd (omega arith)
take-plus (suc n) [] (y ∷ ys) e h = absurd (omega arith)
take-plus (suc n) (x ∷ xs) (y ∷ ys) e h = ap (λ (l : List ℕ). (x + y) ∷ l) (take-plus n xs ys (omega arith) (omega arith))

-- no sum is above the two bounds together
pub plus-most : (b c : ℕ) (xs ys : List ℕ) → ((k : ℕ) → get_or xs k 0 ≤ b) → ((k : ℕ) → get_or ys k 0 ≤ c) → (k : ℕ) → get_or (plus xs ys) k 0 ≤ b + c
unfolding plus
plus-most b c xs [] f g k = rw (plus_none xs) (omega (arith, f k))
plus-most b c [] (y ∷ ys) f g k = omega arith
plus-most b c (x ∷ xs) (y ∷ ys) f g zero = omega (arith, f 0, g 0)
plus-most b c (x ∷ xs) (y ∷ ys) f g (suc k) = plus-most b c xs ys (λ j. f (suc j)) (λ j. g (suc j)) k

-- A loop that adds the first n entries of ys to those of xs: i are added to what is now acc
pub record Adding (n : ℕ) (xs ys acc : List ℕ) (i : ℕ) : Type 0 where
  pub within : i ≤ n
  pub sums : acc ≡ plus xs (take i ys)

pub none-added : (n : ℕ) (xs ys : List ℕ) → Adding n xs ys xs 0
none-added n xs ys = record { within = omega arith; sums = sym (plus_none xs) }

module _ (n : ℕ) (xs ys acc : List ℕ) (i : ℕ) (inv : Adding n xs ys acc i) where
  -- the entry that is added to is as it was
  pub untouched : get_or acc i 0 ≡ get_or xs i 0
  untouched = ap (λ (l : List ℕ). get_or l i 0) inv.sums ∙ plus-past xs ys i

  pub add_turn : (v : ℕ) → i < n → n ≤ length xs → n ≤ length ys → v ≡ get_or acc i 0 + get_or ys i 0 → Adding n xs ys (set acc i v) (i + 1)
  add_turn v h narrow wide e = record {
    within = omega arith;
    sums =
        ap (set acc i) (e ∙ ap (λ (k : ℕ). k + get_or ys i 0) untouched)
        ∙ ap (λ (l : List ℕ). set l i (get_or xs i 0 + get_or ys i 0)) inv.sums
        ∙ plus-next xs ys i (omega arith) (omega arith) ∙ ap (λ (k : ℕ). plus xs (take k ys)) (sym (add-one i));
  }
