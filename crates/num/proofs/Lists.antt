-- Laws of lists given by their entries, of lists that are thinned out, of parts of what is made of a list, and of one element many times.
-- Assumes nothing.
use mathlib.Core.Path.{◌≡◌, refl, sym, ap, ◌∙◌}
use mathlib.Core.Bool.{Bool, true, false, cond}
use mathlib.Core.List.{List, [], ◌∷◌, ◌++◌, map, append-nil, reverse, reverse-cons}
use mathlib.Core.Logic.{by_cases}
use Prim.Native.Nat.{ℕ, zero, suc, ◌+◌, ◌-◌, min, ◌<◌, ◌≤◌}
use native.Mathlib.Decide.{dec_le, dec_lt}
use native.Mathlib.Omega.{arith}
use lib.ListN.{length, get_or, take, drop, replicate, length-append, get_or-append}
use lib.Seq.{ext_get_or, get_or_at, take_all, take-length}
use Rattle.num.specs.Lists.{build, keep}

module _ {A : Type 0} where
  pub length-build : (n : ℕ) (f : ℕ → A) → length (build n f) ≡ n
  unfolding build
  length-build zero f = refl
  length-build (suc n) f = ap suc (length-build n (λ k. f (suc k)))

  pub at-build : (n : ℕ) (f : ℕ → A) (k : ℕ) (d : A) → k < n → get_or (build n f) k d ≡ f k
  unfolding build
  at-build zero f k d h = absurd (omega arith)
  at-build (suc n) f zero d h = refl
  at-build (suc n) f (suc k) d h = at-build n (λ j. f (suc j)) k d (omega arith)

  -- a list whose entries are those of f
  pub built : (d : A) (x : List A) (n : ℕ) (f : ℕ → A) → length x ≡ n → ((k : ℕ) → k < n → get_or x k d ≡ f k) → x ≡ build n f
  built d x n f l h =
      ext_get_or d x (build n f) (l ∙ sym (length-build n f)) (λ k b. h k (omega arith) ∙ sym (at-build n f k d (omega arith)))

  -- one entry more
  pub build-more : (n : ℕ) (f : ℕ → A) → build (suc n) f ≡ build n f ++ (f n ∷ [])
  unfolding build
  build-more zero f = refl
  build-more (suc n) f = ap (λ (l : List A). f 0 ∷ l) (build-more n (λ k. f (suc k)))

  -- the same entries
  pub build-same : (n : ℕ) (f g : ℕ → A) → ((k : ℕ) → k < n → f k ≡ g k) → build n f ≡ build n g
  unfolding build
  build-same zero f g h = refl
  build-same (suc n) f g h = let e = h 0 (omega arith) in let d = build-same n (λ k. f (suc k)) (λ k. g (suc k)) (λ k l. h (suc k) (omega arith)) in cc

  -- the first m, and the n behind them
  pub build-append : (m n : ℕ) (f : ℕ → A) → build (m + n) f ≡ build m f ++ build n (λ k. f (m + k))
  unfolding build
  build-append zero n f =
      let e : 0 + n ≡ n = omega arith in
      ap (λ (j : ℕ). build j f) e ∙ build-same n f (λ k. f (0 + k)) (λ k l. let d : k ≡ 0 + k = omega arith in ap f d)
  build-append (suc m) n f =
      let e : suc m + n ≡ suc (m + n) = omega arith in
      ap (λ (j : ℕ). build j f) e
      ∙ ap (λ (l : List A). f 0 ∷ l) (build-append m n (λ k. f (suc k)))
      ∙ ap (λ (l : List A). f 0 ∷ (build m (λ k. f (suc k)) ++ l))
      (build-same n (λ k. f (suc (m + k))) (λ k. f (suc m + k)) (λ k l. let d : suc (m + k) ≡ suc m + k = omega arith in ap f d))

  kept_append : (b : Bool) (y : A) (k l m : List A) → k ≡ l ++ m → cond b (y ∷ k) k ≡ cond b (y ∷ l) l ++ m
  kept_append true y k l m e = ap (λ (t : List A). y ∷ t) e
  kept_append false y k l m e = e

  pub keep_append : (test : A → Bool) (xs ys : List A) → keep test (xs ++ ys) ≡ keep test xs ++ keep test ys
  unfolding keep
  keep_append test [] ys = refl
  keep_append test (x ∷ xs) ys = kept_append (test x) x (keep test (xs ++ ys)) (keep test xs) (keep test ys) (keep_append test xs ys)

  -- one entry more, which passes, or does not
  pub keep-yes : (test : A → Bool) (xs : List A) (x : A) → test x ≡ true → keep test (xs ++ (x ∷ [])) ≡ keep test xs ++ (x ∷ [])
  unfolding keep
  keep-yes test xs x e = keep_append test xs (x ∷ []) ∙ rw e

  pub keep-no : (test : A → Bool) (xs : List A) (x : A) → test x ≡ false → keep test (xs ++ (x ∷ [])) ≡ keep test xs
  unfolding keep
  keep-no test xs x e = keep_append test xs (x ∷ []) ∙ rw e (append-nil (keep test xs))

-- the entries of what is made of a list
pub map_at : {A B : Type 0} (f : A → B) (l : List A) (k : ℕ) (a : A) (b : B) → k < length l → get_or (map f l) k b ≡ f (get_or l k a)
map_at f [] k a b h = absurd (omega arith)
map_at f (x ∷ xs) zero a b h = refl
map_at f (x ∷ xs) (suc k) a b h = map_at f xs k a b (omega arith)

-- the entries from the end on
pub reverse-long : {A : Type 0} (l : List A) → length (reverse l) ≡ length l
reverse-long [] = refl
reverse-long (x ∷ l) = ap length (reverse-cons x l) ∙ length-append (reverse l) (x ∷ []) ∙ let e = reverse-long l in omega arith

module _ {A : Type 0} (x d : A) (l : List A) (k : ℕ) where
  reverse-last : k ≡ length l → get_or (reverse l ++ (x ∷ [])) k d ≡ get_or (x ∷ l) (length l - k) d
  reverse-last e =
      let none : length l - k ≡ 0 = omega arith in
      get_or_at (reverse l) x [] d k (reverse-long l ∙ sym e) ∙ ap (λ (j : ℕ). get_or (x ∷ l) j d) (sym none)

  reverse-before : k < length l → get_or (reverse l) k d ≡ get_or l (length l - 1 - k) d → get_or (reverse l ++ (x ∷ [])) k d ≡ get_or (x ∷ l) (length l - k) d
  reverse-before h e =
      let one : length l - k ≡ suc (length l - 1 - k) = omega arith in
      get_or-append (reverse l) (x ∷ []) d k (omega (arith, reverse-long l)) ∙ e ∙ ap (λ (j : ℕ). get_or (x ∷ l) j d) (sym one)

pub at-reverse : {A : Type 0} (l : List A) (k : ℕ) (d : A) → k < length l → get_or (reverse l) k d ≡ get_or l (length l - 1 - k) d
at-reverse [] k d h = absurd (omega arith)
at-reverse (x ∷ l) k d h =
    let e : length l - k ≡ suc (length l) - 1 - k = omega arith in
    ap (λ (r : List _). get_or r k d) (reverse-cons x l)
    ∙ by_cases (dec_lt k (length l)) (λ b. reverse-before x d l k b (at-reverse l k d b)) (λ b. reverse-last x d l k (omega arith))
    ∙ ap (λ (j : ℕ). get_or (x ∷ l) j d) e

-- a part of it is made of that part of the list
module _ {A B : Type 0} (f : A → B) where
  pub take-map : (n : ℕ) (l : List A) → take n (map f l) ≡ map f (take n l)
  take-map zero l = refl
  take-map (suc n) [] = refl
  take-map (suc n) (x ∷ l) = ap (λ (r : List B). f x ∷ r) (take-map n l)

  pub drop-map : (n : ℕ) (l : List A) → drop n (map f l) ≡ map f (drop n l)
  drop-map zero l = refl
  drop-map (suc n) [] = refl
  drop-map (suc n) (x ∷ l) = drop-map n l

-- a part that reaches past the end ends there
pub take_min : {A : Type 0} (k : ℕ) (l : List A) → take (min k (length l)) l ≡ take k l
take_min k l =
    by_cases (dec_le k (length l)) (λ h. let e : min k (length l) ≡ k = omega arith in rw e)
    (λ f. let e : min k (length l) ≡ length l = omega arith in rw (e, take_all k l (omega arith)) (take-length l))

-- n times a: its parts
module _ {A : Type 0} (a : A) where
  pub take-replicate : (k n : ℕ) → k ≤ n → take k (replicate n a) ≡ replicate k a
  take-replicate zero n h = refl
  take-replicate (suc k) zero h = absurd (omega arith)
  take-replicate (suc k) (suc n) h = ap (λ (l : List A). a ∷ l) (take-replicate k n (omega arith))

  pub drop-replicate : (k n : ℕ) → drop k (replicate n a) ≡ replicate (n - k) a
  drop-replicate zero n = let e : n ≡ n - 0 = omega arith in ap (λ (i : ℕ). replicate i a) e
  drop-replicate (suc k) zero = let e : 0 ≡ 0 - suc k = omega arith in ap (λ (i : ℕ). replicate i a) e
  drop-replicate (suc k) (suc n) = let e : n - k ≡ suc n - suc k = omega arith in drop-replicate k n ∙ ap (λ (i : ℕ). replicate i a) e

  pub part-replicate : (from k n : ℕ) → from + k ≤ n → take k (drop from (replicate n a)) ≡ replicate k a
  part-replicate from k n h = ap (take k) (drop-replicate from n) ∙ take-replicate k (n - from) (omega arith)

-- a list of which each element is v
pub all_same : {A : Type 0} (v d : A) (xs : List A) → ((i : ℕ) → i < length xs → get_or xs i d ≡ v) → xs ≡ replicate (length xs) v
all_same v d [] h = refl
all_same v d (x ∷ xs) h = rw (h 0 (omega arith), ← all_same v d xs (λ i l. h (suc i) (omega arith)))
