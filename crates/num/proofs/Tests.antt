-- Laws of tests that compute: the two answers of a flag, flags of one statement are equal, both of two, every number below a limit. Assumes nothing.
use mathlib.Core.Path.{◌≡◌, refl, sym}
use mathlib.Core.Bool.{Bool, true, false, ◌&&◌, decide, decide_iff}
use Prim.Native.Nat.{ℕ, zero, suc, ◌<◌, ◌≤◌}
use native.Mathlib.Omega.{arith}
use native.Mathlib.Decide.{ℕ_discrete}
use borrow.Author.Tests.{leb-true, ltb-true, eqb-true, le-leb, lt-ltb, eq-eqb}
use lib.Dec.{leb, ltb, eqb}
use Rattle.num.proofs.Logic.{never}
use Rattle.num.specs.Tests.{Tells, all_below}

pub tells-no : {P : Type 0} → (P → ⊥) → Tells false P
tells-no refuted = (λ e. absurd (never e), λ p. absurd (refuted p))

pub tells-yes : {P : Type 0} → P → Tells true P
tells-yes p = (λ e. p, λ q. refl)

-- two flags that tell of one statement are equal
pub tells-same : {P : Type 0} (a b : Bool) → Tells a P → Tells b P → a ≡ b
tells-same true true t u = refl
tells-same false false t u = refl
tells-same true false t u = sym (u.1 (t.0 refl))
tells-same false true t u = t.1 (u.0 refl)

pub tells-iff : {P Q : Type 0} (b : Bool) → (P → Q) → (Q → P) → Tells b P → Tells b Q
tells-iff b to from t = (λ e. to (t.0 e), λ q. t.1 (from q))

pub tells_both : {P Q : Type 0} (a b : Bool) → Tells a P → Tells b Q → Tells (a && b) (P × Q)
tells_both true b t u = (λ e. (t.0 refl, u.0 e), λ pq. u.1 pq.1)
tells_both false b t u = (λ e. absurd (never e), λ pq. t.1 pq.0)

pub tells-le : (a b : ℕ) → Tells (leb a b) (a ≤ b)
tells-le a b = (λ e. leb-true a b e, λ h. le-leb a b h)

pub tells-lt : (a b : ℕ) → Tells (ltb a b) (a < b)
tells-lt a b = (λ e. ltb-true a b e, λ h. lt-ltb a b h)

pub tells-eq : (a b : ℕ) → Tells (eqb a b) (a ≡ b)
tells-eq a b = (λ e. eqb-true a b e, λ h. eq-eqb a b h)

pub tells-decide : {P : Type 0} (d : Dec P) → Tells (decide d) P
tells-decide d = ((decide_iff d).0, (decide_iff d).1)

-- every number below n
pub tells-below : (n : ℕ) (test : ℕ → Bool) (P : ℕ → Type 0) → ((k : ℕ) → Tells (test k) (P k)) → Tells (all_below n test) ((k : ℕ) → k < n → P k)
unfolding all_below
tells-below zero test P each = tells-yes (λ k h. absurd (omega arith))
tells-below (suc n) test P each =
    tells-iff (all_below n test && test n) to (λ all. (λ k h. all k (omega arith), all n (omega arith))) (tells_both (all_below n test) (test n) (tells-below n test P each) (each n))
  where
    to : ((k : ℕ) → k < n → P k) × P n → (k : ℕ) → k < suc n → P k
    to both k h = go (ℕ_discrete k n)
      where
        go : Dec (k ≡ n) → P k
        go (yes e) = rw e both.1
        go (no ne) = both.0 k (omega arith)
