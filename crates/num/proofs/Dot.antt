-- Laws of `dot_z`, the sum of products: its parts, zeros behind a list, and its size, which is at most the mean of both sums of squares.
-- Assumes nothing.
use mathlib.Core.Path.{◌≡◌, refl, sym, ap, ◌∙◌}
use mathlib.Core.List.{List, [], ◌∷◌}
use Prim.Native.Nat.{ℕ, zero, suc, ◌+◌, ◌-◌, ◌*◌, ◌≤◌, ◌<◌}
use native.Mathlib.Nat.{suc-add, mul-suc, mul-le-mul}
use native.Mathlib.Omega.{arith}
use lib.IntN.{ℤ, pos, nat_abs, ◌+ℤ◌, ◌*ℤ◌, +ℤ_assoc, +ℤ_idl, +ℤ_idr, *ℤ-zero}
use lib.ListN.{length, get_or, take, drop, length-take, length-drop}
use lib.Seq.{take-nil, drop-drop, take_all, take-take, get_or-drop}
use Rattle.num.specs.Sum.{dot_z}
use Rattle.num.proofs.Abs.{abs-add, abs-mul, square}
use Rattle.num.proofs.Squares.{four_products}
use Rattle.num.proofs.Sum.{dot-nil, dot-first}

-- a list and its first m entries, where it has no more
pub dot-all : (m : ℕ) (xs ys : List ℤ) → length xs ≤ m → dot_z (take m xs) ys ≡ dot_z xs ys
dot-all m xs ys h = ap (λ (l : List ℤ). dot_z l ys) (take_all m xs h)

-- the first m entries of both
pub dot-taken : (m : ℕ) (xs ys : List ℤ) → dot_z (take m xs) (take m ys) ≡ dot_z (take m xs) ys
unfolding dot_z
dot-taken zero xs ys = refl
dot-taken (suc m) [] ys = refl
dot-taken (suc m) (x ∷ xs) [] = refl
dot-taken (suc m) (x ∷ xs) (y ∷ ys) = ap (λ (z : ℤ). x *ℤ y +ℤ z) (dot-taken m xs ys)

-- the first m products, and the k after them
pub dot-split : (m k : ℕ) (xs ys : List ℤ) → dot_z (take (m + k) xs) ys ≡ dot_z (take m xs) ys +ℤ dot_z (take k (drop m xs)) (drop m ys)
unfolding dot_z
dot-split zero k xs ys = let e : 0 + k ≡ k = omega arith in rw e (sym (+ℤ_idl (dot_z (take k xs) ys)))
dot-split (suc m) k [] ys = rw (take-nil {A = ℤ} (suc m + k), take-nil {A = ℤ} k)
dot-split (suc m) k (x ∷ xs) [] = rw (suc-add m k, dot-nil (take k (drop m xs)))
dot-split (suc m) k (x ∷ xs) (y ∷ ys) =
    rw (suc-add m k) (ap (λ (z : ℤ). x *ℤ y +ℤ z) (dot-split m k xs ys) ∙ sym (+ℤ_assoc (x *ℤ y) (dot_z (take m xs) ys) (dot_z (take k (drop m xs)) (drop m ys))))

-- the products of m entries from k on
abbrev pub part : (xs ys : List ℤ) → (k m : ℕ) → ℤ
part xs ys k m = dot_z (take m (drop k xs)) (drop k ys)

pub part-split : (xs ys : List ℤ) (k m n : ℕ) → part xs ys k (m + n) ≡ part xs ys k m +ℤ part xs ys (k + m) n
part-split xs ys k m n = dot-split m n (drop k xs) (drop k ys) ∙ rw (drop-drop m k xs, drop-drop m k ys)

-- one product
pub part-one : (xs ys : List ℤ) (k : ℕ) → k < length xs → k < length ys → part xs ys k 1 ≡ get_or xs k (pos 0) *ℤ get_or ys k (pos 0)
unfolding dot_z
part-one [] ys k h l = absurd (omega arith)
part-one (x ∷ xs) [] k h l = absurd (omega arith)
part-one (x ∷ xs) (y ∷ ys) zero h l = +ℤ_idr (x *ℤ y)
part-one (x ∷ xs) (y ∷ ys) (suc k) h l = part-one xs ys k (omega arith) (omega arith)

-- zeros
pub dot-zeros : (xs ys : List ℤ) → ((k : ℕ) → get_or ys k (pos 0) ≡ pos 0) → dot_z xs ys ≡ pos 0
unfolding dot_z
dot-zeros [] ys f = refl
dot-zeros (x ∷ xs) [] f = refl
dot-zeros (x ∷ xs) (y ∷ ys) f = let e : y ≡ pos 0 = f 0 in rw (e, *ℤ-zero x, dot-zeros xs ys (λ k. f (suc k)))

-- the sum of squares, in ℕ
abbrev squares : List ℤ → ℕ
squares [] = 0
squares (x ∷ xs) = nat_abs x * nat_abs x + squares xs

dot-self : (xs : List ℤ) → dot_z xs xs ≡ pos (squares xs)
unfolding dot_z
dot-self [] = refl
dot-self (x ∷ xs) = rw (square x, dot-self xs)

pub dot-self-pos : (xs : List ℤ) → dot_z xs xs ≡ pos (nat_abs (dot_z xs xs))
dot-self-pos xs = rw (dot-self xs)

squares-take : (m : ℕ) (xs : List ℤ) → squares (take m xs) ≤ squares xs
squares-take zero xs = omega arith
squares-take (suc m) [] = omega arith
squares-take (suc m) (x ∷ xs) = omega (arith, squares-take m xs)

squares-drop : (m : ℕ) (xs : List ℤ) → squares (drop m xs) ≤ squares xs
squares-drop zero xs = omega arith
squares-drop (suc m) [] = omega arith
squares-drop (suc m) (x ∷ xs) = omega (arith, squares-drop m xs)

pub dot-self-size : (B : ℕ) (xs : List ℤ) → ((k : ℕ) → nat_abs (get_or xs k (pos 0)) ≤ B) → nat_abs (dot_z xs xs) ≤ B * B * length xs
dot-self-size B xs f = rw (dot-self xs) (go xs f)
  where
    go : (xs : List ℤ) → ((k : ℕ) → nat_abs (get_or xs k (pos 0)) ≤ B) → squares xs ≤ B * B * length xs
    go [] f = omega arith
    go (x ∷ xs) f = let h : nat_abs x ≤ B = f 0 in omega (arith, go xs (λ k. f (suc k)), mul-le-mul h h, mul-suc (B * B) (length xs))

-- twice a product is at most the sum of the squares
dot-size : (xs ys : List ℤ) → 2 * nat_abs (dot_z xs ys) ≤ squares xs + squares ys
unfolding dot_z
dot-size [] ys = omega arith
dot-size (x ∷ xs) [] = omega arith
dot-size (x ∷ xs) (y ∷ ys) =
    omega (arith, dot-size xs ys, abs-add (x *ℤ y) (dot_z xs ys), abs-mul x y, four_products (nat_abs x) (nat_abs y))

-- the products of a part of a list with a later part of it are at most the sum of its squares
pub part-size : (xs : List ℤ) (lag k m : ℕ) → nat_abs (part xs (drop lag xs) k m) ≤ nat_abs (dot_z xs xs)
part-size xs lag k m =
    rw (dot-self xs)
    (omega (arith, dot-size (take m (drop k xs)) (drop k (drop lag xs)), squares-take m (drop k xs), squares-drop k xs, squares-drop k (drop lag xs), squares-drop lag xs))

-- where zeros stand from entry n on, products past it add nothing
pub dot-cut : (n k : ℕ) (xs ys : List ℤ) → n ≤ k → ((j : ℕ) → n ≤ j → get_or ys j (pos 0) ≡ pos 0) → dot_z (take k xs) ys ≡ dot_z (take n xs) ys
dot-cut n k xs ys h zeros =
    let e : k ≡ n + (k - n) = omega arith in
    ap (λ (i : ℕ). dot_z (take i xs) ys) e ∙ dot-split n (k - n) xs ys
    ∙ ap (λ (z : ℤ). dot_z (take n xs) ys +ℤ z) (dot-zeros (take (k - n) (drop n xs)) (drop n ys) (λ j. get_or-drop n ys j (pos 0) ∙ zeros (n + j) (omega arith)))
    ∙ +ℤ_idr (dot_z (take n xs) ys)

drop-take : (k m : ℕ) (ys : List ℤ) → k ≤ m → drop k (take m ys) ≡ take (m - k) (drop k ys)
drop-take zero m ys h = let e : m - 0 ≡ m = omega arith in rw e
drop-take (suc k) zero ys h = absurd (omega arith)
drop-take (suc k) (suc m) [] h = sym (take-nil (suc m - suc k))
drop-take (suc k) (suc m) (y ∷ ys) h = let e : suc m - suc k ≡ m - k = omega arith in rw e (drop-take k m ys (omega arith))

-- the products of entries that are lag apart, of the first n entries
pub dot-front : (n lag : ℕ) (xs : List ℤ) → lag ≤ n → dot_z (take (n - lag) xs) (drop lag xs) ≡ dot_z (take n xs) (drop lag (take n xs))
dot-front n lag xs h =
    sym (sym (dot-first (n - lag) (take n xs) (drop lag (take n xs)) (omega (arith, length-drop lag (take n xs), length-take n xs)))
    ∙ rw (take-take (n - lag) n xs (omega arith), drop-take lag n xs h) (dot-taken (n - lag) xs (drop lag xs)))
