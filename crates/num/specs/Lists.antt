-- Lists given by their entries, searched, thinned out, counted and added. Assumes nothing.
use Rattle.std.specs.Prelude.{Bool, cond, List, [], ◌∷◌, ℕ, zero, suc, ◌+◌, eqb, length}

-- f 0, f 1, .., f (n - 1)
unfoldable pub build : {A : Type 0} → ℕ → (ℕ → A) → List A
build zero f = []
build (suc n) f = f 0 ∷ build n (λ k. f (suc k))

-- the entries that pass the test
unfoldable pub keep : {A : Type 0} → (A → Bool) → List A → List A
keep test [] = []
keep test (x ∷ xs) = cond (test x) (x ∷ keep test xs) (keep test xs)

-- how many entries have the value k
abbrev pub having : {A : Type 0} → (A → ℕ) → List A → ℕ → ℕ
having {A} value xs k = length (keep (λ (x : A). eqb (value x) k) xs)

-- for each of 0, 1, .., n - 1 how many entries have it as their value
unfoldable pub tallies : {A : Type 0} → ℕ → (A → ℕ) → List A → List ℕ
tallies n value xs = build n (having value xs)

-- the first of k, k + 1, .., k + n - 1 that passes; k + n if none does
unfoldable pub first : (ℕ → Bool) → ℕ → ℕ → ℕ
first test k zero = k
first test k (suc n) = cond (test k) k (first test (suc k) n)

-- xs with each entry of ys added to the entry at its place
unfoldable pub plus : List ℕ → List ℕ → List ℕ
plus xs [] = xs
plus [] (y ∷ ys) = []
plus (x ∷ xs) (y ∷ ys) = (x + y) ∷ plus xs ys
