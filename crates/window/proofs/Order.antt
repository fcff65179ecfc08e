-- Rows in another order, each as often as it occurs, are a permutation of them; so no column's sum depends on the order, nor does the mean over the
-- columns of what is made of the sums. Assumes nothing.
use mathlib.Core.Path.{◌≡◌, refl, sym, ap, ◌∙◌, subst}
use mathlib.Core.Bool.{Bool, true, false, cond}
use mathlib.Core.List.Permᴰ
use mathlib.Core.List.{List, [], ◌∷◌, ◌++◌, map, Permᴰ}
use Prim.Native.Nat.{ℕ, zero, suc, ◌+◌, ◌/◌, ◌≤◌}
use native.Mathlib.Omega.{arith}
use borrow.Author.Tests.{eqb-true, eq-eqb}
use lib.Dec.{eqb}
use lib.ListN.{length}
use Rattle.num.proofs.Logic.{never, both}
use Rattle.window.specs.Window.{width, Long}
use Rattle.window.specs.Sums.{Summing, Lawful, column_sum, window_mean}
use Rattle.window.specs.Order.{same_row, occurrences, Reordered, SumsHaveNoOrder, HasNoOrder}
use Rattle.window.proofs.View.{column-perm}
use Rattle.window.proofs.Mean.{sum_to-same}

-- ---- rows as often as they occur, and permutations of them

same_row-true : (xs ys : List ℕ) → same_row xs ys ≡ true → xs ≡ ys
unfolding same_row
same_row-true [] [] h = refl
same_row-true [] (y ∷ ys) h = absurd (never h)
same_row-true (x ∷ xs) [] h = absurd (never h)
same_row-true (x ∷ xs) (y ∷ ys) h =
    let b = both (eqb x y) (same_row xs ys) h in
    cc (eqb-true x y b.0, same_row-true xs ys b.1)

row-itself : (xs : List ℕ) → same_row xs xs ≡ true
unfolding same_row
row-itself [] = refl
row-itself (x ∷ xs) = rw (eq-eqb x x refl) (row-itself xs)

occurs-once-more : (row : List ℕ) (rows : List (List ℕ)) → occurrences row (row ∷ rows) ≡ 1 + occurrences row rows
unfolding occurrences
occurs-once-more row rows = rw (row-itself row)

occurrences-append : (row : List ℕ) (xs ys : List (List ℕ)) → occurrences row (xs ++ ys) ≡ occurrences row xs + occurrences row ys
unfolding occurrences
occurrences-append row [] ys = omega arith
occurrences-append row (x ∷ xs) ys = omega (arith, occurrences-append row xs ys)

-- a permutation keeps how often each row occurs
reordered-by : {rows other : List (List ℕ)} → Permᴰ rows other → Reordered rows other
unfolding occurrences
reordered-by Permᴰ.nil row = refl
reordered-by (Permᴰ.cons e p) row = rw (e, reordered-by p row)
reordered-by (Permᴰ.swap d e) row = rw (d, e) (omega arith)
reordered-by (Permᴰ.trans p q) row = reordered-by p row ∙ reordered-by q row

-- where a row that occurs stands
record Found (row : List ℕ) (rows : List (List ℕ)) : Type 0 where
  before : List (List ℕ)
  behind : List (List ℕ)
  stands : rows ≡ before ++ row ∷ behind

found : (row : List ℕ) (rows : List (List ℕ)) → 1 ≤ occurrences row rows → Found row rows
unfolding occurrences
found row [] h = absurd (omega arith)
found row (x ∷ rows) h = go (same_row row x) refl h (λ k. found row rows k)
  where
    go : (b : Bool) → same_row row x ≡ b → 1 ≤ cond b 1 0 + occurrences row rows → (1 ≤ occurrences row rows → Found row rows) → Found row (x ∷ rows)
    go true e h further = record { before = []; behind = rows; stands = ap (λ (y : List ℕ). y ∷ rows) (sym (same_row-true row x e)) }
    go false e h further =
        let f = further (omega arith) in
        record { before = x ∷ f.before; behind = f.behind; stands = ap (λ (l : List (List ℕ)). x ∷ l) f.stands }

-- and rows that each occur as often are a permutation
perm-of : (rows other : List (List ℕ)) → Reordered rows other → Permᴰ rows other
unfolding occurrences
perm-of [] [] r = Permᴰ.nil
perm-of [] (y ∷ other) r = absurd (omega (arith, r y, occurs-once-more y other))
perm-of (x ∷ rows) other r =
    let f : Found x other = found x other (omega (arith, r x, occurs-once-more x rows)) in
    let rest : Reordered rows (f.before ++ f.behind) = λ row. omega (
      arith,
      r row ∙ ap (occurrences row) f.stands,
      occurrences-append row f.before (x ∷ f.behind),
      occurrences-append row f.before f.behind,
    ) in
    subst (Permᴰ (x ∷ rows)) (sym f.stands)
    (Permᴰ.trans (Permᴰ.cons refl (perm-of rows (f.before ++ f.behind) rest)) (Permᴰ.symm (Permᴰ.middle x f.before f.behind)))

-- what is made of each row of them
pub reordered-map : (g : List ℕ → List ℕ) (rows other : List (List ℕ)) → Reordered rows other → Reordered (map g rows) (map g other)
reordered-map g rows other r = reordered-by (Permᴰ.map g (perm-of rows other r))

-- ---- as many rows, and as wide

length-perm : {window other : List (List ℕ)} → Permᴰ window other → length window ≡ length other
length-perm Permᴰ.nil = refl
length-perm (Permᴰ.cons e p) = ap suc (length-perm p)
length-perm (Permᴰ.swap d e) = refl
length-perm (Permᴰ.trans p q) = length-perm p ∙ length-perm q

pub length-reordered : (rows other : List (List ℕ)) → Reordered rows other → length rows ≡ length other
length-reordered rows other r = length-perm (perm-of rows other r)

-- rows in another order are as wide
long-perm : {n : ℕ} {window other : List (List ℕ)} → Permᴰ window other → Long n window → Long n other
long-perm Permᴰ.nil long i h = long i h
long-perm (Permᴰ.cons e p) long zero h = rw (← e) (long 0 (omega arith))
long-perm (Permᴰ.cons e p) long (suc i) h = long-perm p (λ j k. long (suc j) (omega arith)) i (omega arith)
long-perm (Permᴰ.swap d e) long zero h = rw (← e) (long 1 (omega arith))
long-perm (Permᴰ.swap d e) long (suc zero) h = rw (← d) (long 0 (omega arith))
long-perm (Permᴰ.swap d e) long (suc (suc i)) h = long (suc (suc i)) (omega arith)
long-perm (Permᴰ.trans p q) long i h = long-perm q (long-perm p long) i h

pub long-reordered : (n : ℕ) (rows other : List (List ℕ)) → Reordered rows other → Long n rows → Long n other
long-reordered n rows other r long = long-perm (perm-of rows other r) long

width-reordered : (n : ℕ) (window other : List (List ℕ)) → Reordered window other → Long n window → width window ≡ width other
width-reordered n window other r long = go window other (length-reordered window other r) long (long-reordered n window other r long)
  where
    go : (xs ys : List (List ℕ)) → length xs ≡ length ys → Long n xs → Long n ys → width xs ≡ width ys
    go [] [] e lx ly = refl
    go [] (y ∷ ys) e lx ly = absurd (omega arith)
    go (x ∷ xs) [] e lx ly = absurd (omega arith)
    go (x ∷ xs) (y ∷ ys) e lx ly = lx 0 (omega arith) ∙ sym (ly 0 (omega arith))

-- ---- no order

-- THE ONE FACT, for every sum in which two terms can be exchanged
pub sums-have-no-order : (S : Summing) → Lawful S → SumsHaveNoOrder S
sums-have-no-order S lawful f rows other r sc = column-perm S lawful f (perm-of rows other r) sc

-- and from it alone: the mean over the columns of what `term` makes of a column's two sums
pub mean-has-no-order : (S : Summing) → SumsHaveNoOrder S → (term : ℕ → S.Number → S.Number → ℕ) → HasNoOrder (window_mean S term)
unfolding window_mean
mean-has-no-order S sums term n window other long r =
    rw (length-reordered window other r, width-reordered n window other r long)
    (ap (λ (t : ℕ). t / width other)
    (sum_to-same (width other) (λ sc. term (length other) (column_sum S S.f window sc) (column_sum S S.g window sc)) (λ sc. term (length other) (column_sum S S.f other sc) (column_sum S S.g other sc))
    (λ k h. rw (sums S.f window other r k, sums S.g window other r k))))
