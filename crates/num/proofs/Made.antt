-- An array that is made of calls (`array::from_fn`): one entry for each index. Assumes nothing.
use mathlib.Core.Path.{◌≡◌, subst, ◌∙◌}
use mathlib.Core.List.{List}
use mathlib.Core.Logic.{by_cases}
use Prim.Native.Nat.{ℕ, zero, suc, ◌+◌, ◌≤◌, ◌<◌}
use native.Mathlib.Decide.{dec_lt}
use native.Mathlib.Omega.{arith}
use lib.ListN.{get_or}
use denote.Param.Members.{Mut, Called}
use Rattle.std.specs.Array.{IsFromFnResult, IsFromFnResultFrom}
use Rattle.num.specs.Lists.{build}
use Rattle.num.proofs.Lists.{built}

module _ {F : Type 0} (g : Mut F (ℕ × Unit {0}) ℕ) (f : F) (n : ℕ) (h : ℕ → ℕ) (same : (i r : ℕ) (q : F) → i < n → Called g f (i, tt) r q → (q ≡ f) × (r ≡ h i)) where
  each-from : (ys : List ℕ) (i m : ℕ) → i + m ≤ n → IsFromFnResultFrom g f ys i m → (k : ℕ) → i ≤ k → k < i + m → get_or ys k 0 ≡ h k
  each-from ys i zero b e k l u = absurd (omega arith)
  each-from ys i (suc m) b (q, y, at, called, rest) k l u =
      let (stays, is) = same i y q (omega arith) called in
      by_cases (dec_lt i k)
      (λ more. each-from ys (i + 1) m (omega arith) (subst (λ (p : F). IsFromFnResultFrom g p ys (i + 1) m) stays rest) k (omega arith) (omega arith))
      (λ here. let e : k ≡ i = omega arith in rw e (at.1 0 ∙ is))

  pub made : (ys : List ℕ) → IsFromFnResult g f ys n → ys ≡ build n h
  made ys r = built 0 ys n h r.long (λ k l. each-from ys 0 n (omega arith) r.each k (omega arith) (omega arith))
