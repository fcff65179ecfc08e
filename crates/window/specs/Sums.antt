-- Sums over the columns of rows, for any kind of number, and the mean over the columns of what is made of them (csi.rs, `sum` and `sumsq`;
-- phase.rs, `sum_cos` and `sum_sin`). Assumes nothing.
use Rattle.std.specs.Prelude.{◌≡◌, Bool, ◌&&◌, List, [], ◌∷◌, ℕ, zero, suc, ◌+◌, ◌*◌, ◌/◌, ◌≤◌, ◌<◌, leb, eqb, length, get_or}
use Rattle.std.proofs.Math.Bool.{decide}
use Rattle.num.specs.Tests.{all_below}
use Rattle.window.specs.Window.{max_rows, column, width, ring_rows}

-- The sum of f over a list, for any sum: presence adds numbers, phase adds signed ones
module _ {A : Type 0} (add : A → A → A) (none : A) (f : ℕ → A) where
  unfoldable pub total_by : List ℕ → A
  total_by [] = none
  total_by (x ∷ xs) = add (f x) (total_by xs)

-- What a detector carries of each column: the sums of two functions of its entries, in one kind of number whose equality is decided
pub record Summing : Type 1 where
  pub Number : Type 0
  pub add : Number → Number → Number
  pub none : Number
  pub same : (a b : Number) → Dec (a ≡ b)
  pub f : ℕ → Number
  pub g : ℕ → Number

-- a sum in which two terms can be exchanged and a term cancelled
pub record Lawful (S : Summing) : Type 0 where
  pub exchange : (a b c : S.Number) → S.add a (S.add b c) ≡ S.add b (S.add a c)
  pub cancel : (a x y : S.Number) → S.add a x ≡ S.add a y → x ≡ y

-- the sum of a function over one column of the rows
abbrev pub column_sum : (S : Summing) → (ℕ → S.Number) → List (List ℕ) → ℕ → S.Number
column_sum S f rows sc = total_by S.add S.none f (column rows sc)

-- the carried sums of a function are its sums over the first c columns of the rows
abbrev pub CarriedBy : (S : Summing) → (ℕ → S.Number) → ℕ → List (List ℕ) → List S.Number → Type 0
CarriedBy S f c rows sums = (sc : ℕ) → sc < c → get_or sums sc S.none ≡ column_sum S f rows sc

-- fs carries the sums of f, and gs those of g
pub record Carried (S : Summing) (c : ℕ) (rows : List (List ℕ)) (fs gs : List S.Number) : Type 0 where
  pub firsts : CarriedBy S S.f c rows fs
  pub seconds : CarriedBy S S.g c rows gs

-- The ring in memory: its size, and the sums carried beside it
pub record Ring (S : Summing) (w c : ℕ) (bytes : List ℕ) (fs gs : List S.Number) : Type 0 where
  pub small : w ≤ max_rows
  pub whole : length bytes ≡ 2 * (w * c)
  pub sums : Carried S c (ring_rows w c bytes) fs gs

-- the same as tests
abbrev pub sums_at : (S : Summing) → List (List ℕ) → (fs gs : List S.Number) → ℕ → Bool
sums_at S rows fs gs sc = decide (S.same (get_or fs sc S.none) (column_sum S S.f rows sc)) && decide (S.same (get_or gs sc S.none) (column_sum S S.g rows sc))

unfoldable pub is_carried : (S : Summing) → ℕ → List (List ℕ) → (fs gs : List S.Number) → Bool
is_carried S c rows fs gs = all_below c (sums_at S rows fs gs)

unfoldable pub is_ring : (S : Summing) → (w c : ℕ) → List ℕ → (fs gs : List S.Number) → Bool
is_ring S w c bytes fs gs = leb w max_rows && (eqb (length bytes) (2 * (w * c)) && is_carried S c (ring_rows w c bytes) fs gs)

-- g 0 + .. + g (n - 1)
unfoldable pub sum_to : ℕ → (ℕ → ℕ) → ℕ
sum_to zero g = 0
sum_to (suc n) g = sum_to n g + g n

-- The mean over n columns of what `term` makes of the number of rows and a column's two sums: of carried sums, and of a window
unfoldable pub carried_mean : (S : Summing) → (ℕ → S.Number → S.Number → ℕ) → (w n : ℕ) → (fs gs : List S.Number) → ℕ
carried_mean S term w n fs gs = sum_to n (λ sc. term w (get_or fs sc S.none) (get_or gs sc S.none)) / n

unfoldable pub window_mean : (S : Summing) → (ℕ → S.Number → S.Number → ℕ) → List (List ℕ) → ℕ
window_mean S term window = sum_to (width window) (λ sc. term (length window) (column_sum S S.f window sc) (column_sum S S.g window sc)) / width window
