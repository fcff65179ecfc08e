-- A list counted by the values of its entries: the tallies total its length, a value that one entry alone has is counted once and one that none
-- has not at all, and a list made of lists is counted part by part. Assumes nothing.
use mathlib.Core.Path.{◌≡◌, refl, sym, ap, ◌∙◌}
use mathlib.Core.Bool.{Bool, true, false, cond}
use mathlib.Core.List.{List, [], ◌∷◌, ◌++◌, map, flat_map}
use Prim.Native.Nat.{ℕ, zero, suc, ◌+◌, ◌-◌, ◌*◌, ◌≤◌, ◌<◌}
use native.Mathlib.Omega.{arith}
use borrow.Author.Tests.{eq-eqb, ne_eqb, ltb-true, ltb-false}
use lib.Dec.{eqb, ltb}
use lib.ListN.{length, get_or, replicate, length-append, length-replicate}
use Rattle.num.specs.Lists.{build, keep, having, tallies, plus}
use Rattle.num.specs.Sum.{total}
use Rattle.num.proofs.Each.{at_every, each-replicate}
use Rattle.num.proofs.Lists.{length-build, at-build, built, build-same, keep_append}
use Rattle.num.proofs.Tests.{tells-same, tells-iff, tells-eq}

-- what holds of each entry
abbrev pub All : {A : Type 0} → (A → Type 0) → List A → Type 0
All P [] = Unit {0}
All P (x ∷ xs) = P x × All P xs

pub all_build : {A : Type 0} (P : A → Type 0) (m : ℕ) (g : ℕ → A) → ((k : ℕ) → k < m → P (g k)) → All P (build m g)
unfolding build
all_build P zero g h = tt
all_build P (suc m) g h = (h 0 (omega arith), all_build P m (λ k. g (suc k)) (λ k l. h (suc k) (omega arith)))

module _ {B : Type 0} (P : B → Type 0) where
  pub all_append : (xs ys : List B) → All P xs → All P ys → All P (xs ++ ys)
  all_append [] ys p q = q
  all_append (x ∷ xs) ys p q = (p.0, all_append xs ys p.1 q)

  pub all_map : {A : Type 0} (f : A → B) (Q : A → Type 0) → ((x : A) → Q x → P (f x)) → (xs : List A) → All Q xs → All P (map f xs)
  all_map f Q h [] q = tt
  all_map f Q h (x ∷ xs) q = (h x q.0, all_map f Q h xs q.1)

  pub all-flat : {A : Type 0} (part : A → List B) → ((x : A) → All P (part x)) → (xs : List A) → All P (flat_map part xs)
  unfolding flat_map
  all-flat part each [] = tt
  all-flat part each (x ∷ xs) = all_append (part x) (flat_map part xs) (each x) (all-flat part each xs)

pub all_of : {A : Type 0} (P Q : A → Type 0) → ((x : A) → Q x → P x) → (xs : List A) → All Q xs → All P xs
all_of P Q h [] q = tt
all_of P Q h (x ∷ xs) q = (h x q.0, all_of P Q h xs q.1)

-- parts of one length
pub length-flat : {A B : Type 0} (part : A → List B) (n : ℕ) → ((x : A) → length (part x) ≡ n) → (xs : List A) → length (flat_map part xs) ≡ length xs * n
unfolding flat_map
length-flat part n each [] = let e : 0 ≡ 0 * n = omega arith in e
length-flat part n each (x ∷ xs) =
    length-append (part x) (flat_map part xs) ∙ (let e = each x in let d = length-flat part n each xs in omega arith)

eqb-suc : (a b : ℕ) → eqb (suc a) (suc b) ≡ eqb a b
eqb-suc a b = tells-same (eqb (suc a) (suc b)) (eqb a b) (tells-eq (suc a) (suc b)) (tells-iff (eqb a b) (λ (e : a ≡ b). ap suc e) (λ (e : suc a ≡ suc b). omega arith) (tells-eq a b))

-- ---- sums of built lists
build-plus : (n : ℕ) (f g : ℕ → ℕ) → build n (λ (k : ℕ). f k + g k) ≡ plus (build n f) (build n g)
unfolding build plus
build-plus zero f g = refl
build-plus (suc n) f g = ap (λ (l : List ℕ). (f 0 + g 0) ∷ l) (build-plus n (λ k. f (suc k)) (λ k. g (suc k)))

total-plus : (n : ℕ) (f g : ℕ → ℕ) → total (build n (λ (k : ℕ). f k + g k)) ≡ total (build n f) + total (build n g)
unfolding build total
total-plus zero f g = refl
total-plus (suc n) f g = let e = total-plus n (λ k. f (suc k)) (λ k. g (suc k)) in omega arith

total-zero : (n : ℕ) (f : ℕ → ℕ) → ((k : ℕ) → f k ≡ 0) → total (build n f) ≡ 0
unfolding build total
total-zero zero f h = refl
total-zero (suc n) f h = let e = total-zero n (λ k. f (suc k)) (λ k. h (suc k)) in let d = h 0 in omega arith

-- 1 at place i, 0 elsewhere
unfoldable pub mark : ℕ → ℕ → ℕ
mark i k = cond (eqb i k) 1 0

flag-le : (b : Bool) → cond b 1 0 ≤ 1
flag-le true = omega arith
flag-le false = omega arith

mark-le : (i k : ℕ) → mark i k ≤ 1
unfolding mark
mark-le i k = flag-le (eqb i k)

pub mark-same : (i k : ℕ) → i ≡ k → mark i k ≡ 1
unfolding mark
mark-same i k h = ap (λ (b : Bool). cond b 1 0) (eq-eqb i k h)

pub mark-other : (i k : ℕ) → (i ≡ k → ⊥) → mark i k ≡ 0
unfolding mark
mark-other i k h = ap (λ (b : Bool). cond b 1 0) (ne_eqb i k h)

total-mark : (n i : ℕ) → i < n → total (build n (mark i)) ≡ 1
unfolding build total mark
total-mark zero i h = absurd (omega arith)
total-mark (suc n) zero h =
    let e = total-zero n (λ (k : ℕ). mark 0 (suc k)) (λ k. mark-other 0 (suc k) (λ (e : 0 ≡ suc k). omega arith)) in
    omega arith
total-mark (suc n) (suc i) h =
    let e : total (build n (λ (k : ℕ). mark (suc i) (suc k))) ≡ total (build n (mark i)) =
    ap total (build-same n (λ (k : ℕ). mark (suc i) (suc k)) (mark i) (λ k l. ap (λ (b : Bool). cond b 1 0) (eqb-suc i k)))
    in
    let d = total-mark n i (omega arith) in
    let z = mark-other (suc i) 0 (λ (e : suc i ≡ 0). omega arith) in
    omega arith

module _ {A : Type 0} (value : A → ℕ) where
  length-kept : (b : Bool) (x : A) (l : List A) → length (cond b (x ∷ l) l) ≡ cond b 1 0 + length l
  length-kept true x l = let e : suc (length l) ≡ 1 + length l = omega arith in e
  length-kept false x l = let e : length l ≡ 0 + length l = omega arith in e

  -- one entry more, in front or behind
  having-more : (x : A) (xs : List A) (k : ℕ) → having value (x ∷ xs) k ≡ mark (value x) k + having value xs k
  unfolding keep mark
  having-more x xs k = length-kept (eqb (value x) k) x (keep (λ (y : A). eqb (value y) k) xs)

  having-append : (xs ys : List A) (k : ℕ) → having value (xs ++ ys) k ≡ having value xs k + having value ys k
  having-append xs ys k = ap length (keep_append (λ (y : A). eqb (value y) k) xs ys) ∙ length-append (keep (λ (y : A). eqb (value y) k) xs) (keep (λ (y : A). eqb (value y) k) ys)

  pub having-last : (xs : List A) (x : A) (k : ℕ) → having value (xs ++ (x ∷ [])) k ≡ having value xs k + mark (value x) k
  unfolding keep
  having-last xs x k =
      having-append xs (x ∷ []) k ∙ (let e = having-more x [] k in let z : length {A = A} [] ≡ 0 = refl in omega arith)

  pub having-le : (k : ℕ) (xs : List A) → having value xs k ≤ length xs
  unfolding keep
  having-le k [] = omega arith
  having-le k (x ∷ xs) = let e = having-more x xs k in let d = having-le k xs in let m = mark-le (value x) k in omega arith

  -- that no entry has
  pub having-none : (k : ℕ) (xs : List A) → All (λ (x : A). value x ≡ k → ⊥) xs → having value xs k ≡ 0
  unfolding keep
  having-none k [] all = refl
  having-none k (x ∷ xs) all = having-more x xs k ∙ (let e = mark-other (value x) k all.0 in let d = having-none k xs all.1 in omega arith)

  -- of parts, one behind the other
  pub having-flat : {B : Type 0} (part : B → List A) (k : ℕ) (ys : List B) → having value (flat_map part ys) k ≡ total (map (λ (y : B). having value (part y) k) ys)
  unfolding flat_map keep total
  having-flat part k [] = refl
  having-flat part k (y ∷ ys) = having-append (part y) (flat_map part ys) k ∙ ap (λ (t : ℕ). having value (part y) k + t) (having-flat part k ys)

  pub length-tallies : (n : ℕ) (xs : List A) → length (tallies n value xs) ≡ n
  unfolding tallies
  length-tallies n xs = length-build n (having value xs)

  pub tally-le : (n : ℕ) (xs : List A) (k : ℕ) → get_or (tallies n value xs) k 0 ≤ length xs
  unfolding tallies
  tally-le n xs =
      let long = length-tallies n xs in
      at_every (λ (t : ℕ). t ≤ length xs) 0 (omega arith) (tallies n value xs)
      (λ k h. let e = at-build n (having value xs) k 0 (omega arith) in let l = having-le k xs in omega arith)

  pub tallies-none : (n : ℕ) → tallies n value [] ≡ replicate n 0
  unfolding tallies keep
  tallies-none n = sym (built 0 (replicate n 0) n (having value []) (length-replicate {A = ℕ} n 0) (λ k l. each-replicate (λ (v : ℕ). v ≡ 0) n 0 0 refl refl k))

  -- of one list behind another
  pub tallies-append : (n : ℕ) (xs ys : List A) → tallies n value (xs ++ ys) ≡ plus (tallies n value xs) (tallies n value ys)
  unfolding tallies
  tallies-append n xs ys = build-same n _ _ (λ k l. having-append xs ys k) ∙ build-plus n (having value xs) (having value ys)

  -- values below n: each entry is counted once
  pub partition : (n : ℕ) (xs : List A) → All (λ (x : A). value x < n) xs → total (tallies n value xs) ≡ length xs
  unfolding keep tallies
  partition n [] all = total-zero n (having value []) (λ k. refl)
  partition n (x ∷ xs) all =
      ap total (build-same n (having value (x ∷ xs)) (λ (k : ℕ). mark (value x) k + having value xs k) (λ k l. having-more x xs k))
      ∙ total-plus n (mark (value x)) (having value xs)
      ∙ (let e = total-mark n (value x) all.0 in let d = partition n xs all.1 in let g : suc (length xs) ≡ 1 + length xs = omega arith in omega arith)

  having-total : (m : ℕ) (g : ℕ → A) (k : ℕ) → having value (build m g) k ≡ total (build m (λ (p : ℕ). mark (value (g p)) k))
  unfolding build total keep
  having-total zero g k = refl
  having-total (suc m) g k = having-more (g 0) (build m (λ i. g (suc i))) k ∙ ap (λ (t : ℕ). mark (value (g 0)) k + t) (having-total m (λ i. g (suc i)) k)

  -- the value of entry p and of no other
  pub one-alone : (m : ℕ) (g : ℕ → A) (k p : ℕ) → p < m → value (g p) ≡ k → ((i : ℕ) → i < m → value (g i) ≡ k → i ≡ p) → having value (build m g) k ≡ 1
  unfolding mark
  one-alone m g k p h e only =
      having-total m g k
      ∙ ap total (build-same m (λ (i : ℕ). mark (value (g i)) k) (mark p) (λ i l. ap (λ (b : Bool). cond b 1 0) (same i l)))
      ∙ total-mark m p h
    where
      same : (i : ℕ) → i < m → eqb (value (g i)) k ≡ eqb p i
      same i l = tells-same (eqb (value (g i)) k) (eqb p i) (tells-eq (value (g i)) k) (tells-iff (eqb p i) (λ (d : p ≡ i). ap (λ (j : ℕ). value (g j)) (sym d) ∙ e) (λ (d : value (g i) ≡ k). sym (only i l d)) (tells-eq p i))

-- what is counted of a list is counted of what is made of its entries
pub having-map : {A B : Type 0} (f : A → B) (value : B → ℕ) (k : ℕ) (xs : List A) → having value (map f xs) k ≡ having (λ (x : A). value (f x)) xs k
unfolding keep
having-map f value k [] = refl
having-map {A} f value k (x ∷ xs) =
    having-more value (f x) (map f xs) k
    ∙ ap (λ (t : ℕ). mark (value (f x)) k + t) (having-map f value k xs) ∙ sym (having-more (λ (y : A). value (f y)) x xs k)

module _ {A : Type 0} where
  pub tallies-map : (value : A → ℕ) (n : ℕ) (xs : List A) → tallies n (λ (v : ℕ). v) (map value xs) ≡ tallies n value xs
  unfolding tallies
  tallies-map value n xs = build-same n (having (λ (v : ℕ). v) (map value xs)) (having value xs) (λ k l. having-map value (λ (v : ℕ). v) k xs)

  pub having-same : (f g : A → ℕ) → ((x : A) → f x ≡ g x) → (k : ℕ) (xs : List A) → having f xs k ≡ having g xs k
  unfolding keep
  having-same f g e k [] = refl
  having-same f g e k (x ∷ xs) =
      having-more f x xs k ∙ (let d = having-same f g e k xs in let m = ap (λ (i : ℕ). mark i k) (e x) in omega arith)
      ∙ sym (having-more g x xs k)

  -- values that are e higher
  pub having-raised : (e : ℕ) (f : A → ℕ) (k : ℕ) (xs : List A) → having (λ (x : A). e + f x) xs k ≡ cond (ltb k e) 0 (having f xs (k - e))
  unfolding keep mark
  having-raised e f k xs = by (ltb k e) refl xs
    where
      same : (a : ℕ) → ltb k e ≡ false → eqb (e + a) k ≡ eqb a (k - e)
      same a h =
          let l = ltb-false k e h in
          tells-same (eqb (e + a) k) (eqb a (k - e)) (tells-eq (e + a) k) (tells-iff (eqb a (k - e)) (λ (q : a ≡ k - e). omega arith) (λ (q : e + a ≡ k). omega arith) (tells-eq a (k - e)))

      by : (b : Bool) → ltb k e ≡ b → (ys : List A) → having (λ (x : A). e + f x) ys k ≡ cond b 0 (having f ys (k - e))
      by true h [] = refl
      by false h [] = refl
      by true h (y ∷ ys) =
          having-more (λ (x : A). e + f x) y ys k
          ∙ (let d = by true h ys in let l = ltb-true k e h in let m = mark-other (e + f y) k (λ (q : e + f y ≡ k). omega arith) in omega arith)
      by false h (y ∷ ys) =
          having-more (λ (x : A). e + f x) y ys k
          ∙ (let d = by false h ys in let m : mark (e + f y) k ≡ mark (f y) (k - e) = ap (λ (b : Bool). cond b 1 0) (same (f y) h) in omega arith)
          ∙ sym (having-more f y ys (k - e))
