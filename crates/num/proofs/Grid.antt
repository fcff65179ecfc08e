-- Rows of one length, one behind the other: entry p is entry p % n of row p / n. Assumes nothing.
use mathlib.Core.Path.{◌≡◌, refl, sym, ap, ◌∙◌}
use mathlib.Core.List.{List, ◌∷◌, ◌++◌, map, flat_map}
use Prim.Native.Nat.{ℕ, zero, suc, ◌+◌, ◌*◌, ◌/◌, ◌%◌, ◌≤◌, ◌<◌}
use native.Mathlib.Nat.{div-eq_of_lt, mod-eq_of_lt, add-div_left, add-mod_left}
use native.Mathlib.Numerals.{add-one}
use native.Mathlib.Omega.{arith}
use Rattle.num.specs.Lists.{build}
use Rattle.num.proofs.Lists.{build-same, build-append}

pub map-build : {A B : Type 0} (f : A → B) (n : ℕ) (g : ℕ → A) → map f (build n g) ≡ build n (λ k. f (g k))
unfolding build
map-build f zero g = refl
map-build {B = B} f (suc n) g = ap (λ (l : List B). f (g 0) ∷ l) (map-build f n (λ k. g (suc k)))

module _ {B : Type 0} (n : ℕ) where
  -- entry p of rows of length n
  abbrev in_row : (ℕ → ℕ → B) → ℕ → B
  in_row f p = f (p / n) (p % n)

  in-first : (f : ℕ → ℕ → B) (k : ℕ) → k < n → f 0 k ≡ in_row f k
  in-first f k l = rw (div-eq_of_lt l, mod-eq_of_lt l)

  in-later : 1 ≤ n → (f : ℕ → ℕ → B) (p : ℕ) → in_row (λ i. f (suc i)) p ≡ in_row f (n + p)
  in-later some f p = rw (add-div_left p some, add-mod_left n p, add-one (p / n))

  pub grid : {A : Type 0} (row : A → List B) → 1 ≤ n → (m : ℕ) (g : ℕ → A) (f : ℕ → ℕ → B) → ((i : ℕ) → row (g i) ≡ build n (f i))
      → flat_map row (build m g) ≡ build (m * n) (λ p. f (p / n) (p % n))
  unfolding build flat_map
  grid row some zero g f e = let z : 0 ≡ 0 * n = omega arith in ap (λ (j : ℕ). build j (in_row f)) z
  grid row some (suc m) g f e =
      let later = grid row some m (λ i. g (suc i)) (λ i. f (suc i)) (λ i. e (suc i)) ∙ build-same (m * n) (in_row (λ i. f (suc i))) (λ p. in_row f (n + p)) (λ p l. in-later some f p) in
      let size : n + m * n ≡ suc m * n = omega arith in
      ap (λ (l : List B). l ++ flat_map row (build m (λ i. g (suc i)))) (e 0 ∙ build-same n (f 0) (in_row f) (in-first f))
      ∙ ap (λ (l : List B). build n (in_row f) ++ l) later
      ∙ sym (build-append n (m * n) (in_row f))
      ∙ ap (λ (j : ℕ). build j (in_row f)) size
