-- The sum of signed numbers that an iterator makes. Assumes nothing.
use mathlib.Core.Path.{◌≡◌, sym, ◌∙◌}
use mathlib.Core.List.{List, [], ◌∷◌, map}
use Prim.Native.Nat.{ℕ, zero, suc, ◌*◌, ◌≤◌}
use native.Mathlib.Omega.{arith}
use lib.ListN.{length}
use lib.IntN.{ℤ, pos, nat_abs, ◌+ℤ◌, +ℤ_assoc, +ℤ_idl, +ℤ_idr}
use denote.Ref.{Bor}
use Rattle.std.specs.Prelude.{Option, None, Some, IfSome, slice_get}
use Rattle.std.specs.List.{fold, HoldsAt}
use Rattle.num.specs.Sum.{sum_z}
use Rattle.num.proofs.Abs.{abs-add}
use Rattle.vitals.specs.Steps.{Samples}

sum_from : (a : ℤ) (xs : List ℤ) → fold ◌+ℤ◌ a xs ≡ a +ℤ sum_z xs
unfolding sum_z
sum_from a [] = sym (+ℤ_idr a)
sum_from a (x ∷ xs) = sum_from (a +ℤ x) xs ∙ +ℤ_assoc a x (sum_z xs)

pub fold_is_sum : (xs : List ℤ) → fold ◌+ℤ◌ (pos 0) xs ≡ sum_z xs
fold_is_sum xs = sum_from (pos 0) xs ∙ +ℤ_idl (sum_z xs)

pub small : (o : Option (Bor ℤ)) (x : List ℤ) (k : ℕ) → Samples x → IfSome o (λ b. HoldsAt (λ y. b.now ≡ y) x k) → IfSome o (λ b. nat_abs b.now ≤ 32768)
small None x k s h = tt
small (Some b) x k s h = rw (h (pos 0)) (s k)

pub refs_size : (ys : List (Bor ℤ)) → ((k : ℕ) → IfSome (slice_get ys k) (λ b. nat_abs b.now ≤ 32768)) → nat_abs (sum_z (map (λ b. b.now) ys)) ≤ 32768 * length ys
unfolding sum_z
refs_size [] f = omega arith
refs_size (y ∷ ys) f =
    let h : nat_abs y.now ≤ 32768 = f zero in let t = refs_size ys (λ k. f (suc k)) in
    omega (arith, h, t, abs-add y.now (sum_z (map (λ b. b.now) ys)))
