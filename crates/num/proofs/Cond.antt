-- Choices: those whose test is known, what holds of both values, and tests that the value tells; and options that differ. Assumes nothing.
use mathlib.Core.Path.{◌≡◌, refl, ap}
use Prim.Native.Nat.{ℕ, suc}
use native.Mathlib.Omega.{arith}
use mathlib.Core.Bool.{Bool, true, false, cond}
use mathlib.Core.Option.{none, some}

pub cond-true {ℓ} : {A : Type ℓ} (b : Bool) (x y : A) → b ≡ true → cond b x y ≡ x
cond-true b x y e = ap (λ (c : Bool). cond c x y) e

pub cond-false {ℓ} : {A : Type ℓ} (b : Bool) (x y : A) → b ≡ false → cond b x y ≡ y
cond-false b x y e = ap (λ (c : Bool). cond c x y) e

-- a function of what is chosen
pub cond-ap {ℓ ℓ'} : {A : Type ℓ} {B : Type ℓ'} (f : A → B) (b : Bool) (x y : A) → f (cond b x y) ≡ cond b (f x) (f y)
cond-ap f true x y = refl
cond-ap f false x y = refl

-- what holds of each value as its test comes out holds of the one that is chosen
pub cond-holds {ℓ} : {A : Type ℓ} (P : A → Type 0) (b : Bool) (x y : A) → (b ≡ true → P x) → (b ≡ false → P y) → P (cond b x y)
cond-holds P true x y f g = f refl
cond-holds P false x y f g = g refl

-- a number that is chosen and is 0, where one of the two is not: the test chose the other
pub zero-first : (b : Bool) (x n : ℕ) → cond b x (suc n) ≡ 0 → (b ≡ true) × (x ≡ 0)
zero-first true x n e = (refl, e)
zero-first false x n e = absurd (omega arith)

pub zero-second : (b : Bool) (n y : ℕ) → cond b (suc n) y ≡ 0 → (b ≡ false) × (y ≡ 0)
zero-second true n y e = absurd (omega arith)
zero-second false n y e = (refl, e)

pub no_none {ℓ} : {A : Type ℓ} {B : Type 0} {b : B} → none ≡ some b → A
no_none {b = b} h = let z : ◌≡◌ {A = ℕ} 0 1 = cc in absurd (omega arith)
