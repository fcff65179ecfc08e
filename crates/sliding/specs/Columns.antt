-- What a detector's sums of columns have to do, for the steps of a push: an entry added to a column or put in
-- another's place, and the laws. Assumes nothing.
use Rattle.std.specs.Prelude.{◌≡◌, ℕ, suc, ◌<◌, ◌≤◌, min, List, length, get_or}
use Rattle.window.specs.Window.{max_rows}
use Rattle.window.specs.Sums.{Summing, Lawful, carried_mean, window_mean}
use Rattle.detector.specs.Detector.{Kind}

-- all columns but sc keep their sums
abbrev pub OthersKept : {A : Type 0} (none : A) (sc : ℕ) (old new : List A) → Type 0
OthersKept none sc old new = (k : ℕ) → (k ≡ sc → ⊥) → get_or new k none ≡ get_or old k none

-- the entry x is added to the column sc
pub record Added (S : Summing) (sc x : ℕ) (fs gs fs' gs' : List S.Number) : Type 0 where
  pub first : get_or fs' sc S.none ≡ S.add (S.f x) (get_or fs sc S.none)
  pub second : get_or gs' sc S.none ≡ S.add (S.g x) (get_or gs sc S.none)
  pub firsts : OthersKept S.none sc fs fs'
  pub seconds : OthersKept S.none sc gs gs'

-- the entry x takes the place of `old` in the column sc
pub record Replaced (S : Summing) (sc old x : ℕ) (fs gs fs' gs' : List S.Number) : Type 0 where
  pub first : S.add (S.f old) (get_or fs' sc S.none) ≡ S.add (S.f x) (get_or fs sc S.none)
  pub second : S.add (S.g old) (get_or gs' sc S.none) ≡ S.add (S.g x) (get_or gs sc S.none)
  pub firsts : OthersKept S.none sc fs fs'
  pub seconds : OthersKept S.none sc gs gs'

-- two sums of n entries of 16 bits are in range: `In n a b`
abbrev pub Ranges : Summing → Type 1
Ranges S = ℕ → S.Number → S.Number → Type 0

pub record Ranged (S : Summing) (In : Ranges S) : Type 0 where
  pub none : In 0 S.none S.none
  pub more : (n x : ℕ) (a b : S.Number) → x < 65536 → In n a b → In (suc n) (S.add (S.f x) a) (S.add (S.g x) b)
  pub wider : (n m : ℕ) (a b : S.Number) → n ≤ m → In n a b → In m a b

-- two sums are those of the entry `old` and of others, which are in range
pub record Holds (S : Summing) (In : Ranges S) (old : ℕ) (a b : S.Number) : Type 0 where
  pub first : S.Number
  pub second : S.Number
  pub first-is : a ≡ S.add (S.f old) first
  pub second-is : b ≡ S.add (S.g old) second
  pub range : In max_rows first second

-- the wander of n columns of w rows with these sums, by that of one column
abbrev pub wander_by : (K : Kind) (term : ℕ → K.sums.Number → K.sums.Number → ℕ) (w n : ℕ) (fs gs : List K.sums.Number) → ℕ
wander_by K term w n fs gs = min K.top (carried_mean K.sums term w n fs gs)

-- a frame's entries as numbers of 16 bits, each by itself
pub record Entrywise {E : Type 0} (bits : E → ℕ) (entries : List E → List ℕ) : Type 0 where
  pub long : (l : List E) → length (entries l) ≡ length l
  pub each : (l : List E) (i : ℕ) (e : E) → i < length l → e ≡ get_or l i e → get_or (entries l) i 0 ≡ bits e

-- the laws of a kind of detector
pub record Columnwise (K : Kind) (In : Ranges K.sums) (term : ℕ → K.sums.Number → K.sums.Number → ℕ) : Type 0 where
  pub lawful : Lawful K.sums
  pub ranged : Ranged K.sums In
  pub wander : (window : List (List ℕ)) → K.wander_of window ≡ min K.top (window_mean K.sums term window)
