-- `num::dot_i16` meets its contract: the sum so far and that of what is left make the whole. Assumes nothing.
use mathlib.Core.Path.{◌≡◌, sym, ap, ap₂, ◌∙◌}
use mathlib.Core.List.{List, ◌∷◌}
use mathlib.Core.Logic.{◌⊎◌, inl, inr}
use Prim.Native.Nat.{ℕ, ◌+◌, ◌*◌, ◌^◌, ◌≤◌, min}
use native.Mathlib.Nat.{mul-le-mul}
use native.Mathlib.Omega.{arith}
use borrow.Author.Rules.{rules}
use lib.IntN.{ℤ, pos, nat_abs, ◌+ℤ◌, ◌*ℤ◌, +ℤ_idr, +ℤ_assoc}
use lib.ListN.{length, take}
use mir.Syntax.{w16, w64}
use mir.Val.{SFits, to_z, of_z}
use mir.Facts.{to_z-of_z}
use Rattle.std.proofs.lemmas.List.{nil_from_length}
use Rattle.num.specs.Sum.{dot_z, max_terms}
use Rattle.num.proofs.Abs.{sfits-abs, abs-sfits, abs-add, abs-mul}
use Rattle.num.proofs.Sum.{dot-nil, dot-terms}
use Rattle.num.proofs.Read.{read-16-64}
use Rattle.num.proofs.dot_i16.Invariants.{Summed}
use Rattle.num.proofs.dot_i16.Goals as goal

-- what a turn of the loop gives
record Turn (xs ys : List ℤ) (n : ℕ) (sum x y : ℤ) (us vs : List ℤ) : Type 0 where
  term_fits : SFits w64 (x *ℤ y)
  sum_fits : SFits w64 (sum +ℤ x *ℤ y)
  summed : Summed xs ys n (sum +ℤ x *ℤ y) us vs

module _ {xs ys us vs ws zs : List ℤ} {n : ℕ} {sum x y : ℤ} (s : Summed xs ys n sum ws zs) (most : n ≤ max_terms) (eu : ws ≡ x ∷ us) (ev : zs ≡ y ∷ vs) (fx : SFits w16 x) (fy : SFits w16 y) where
  term-small : nat_abs (x *ℤ y) ≤ 2 ^ 30
  term-small = omega (arith, abs-mul x y, mul-le-mul (abs-sfits x fx) (abs-sfits y fy))

  next-small : nat_abs (sum +ℤ x *ℤ y) + 2 ^ 30 * length us ≤ 2 ^ 30 * n
  next-small = omega (arith, abs-add sum (x *ℤ y), s.small, ap (λ (l : List ℤ). length l) eu, term-small)

  next-split : dot_z (take n xs) ys ≡ sum +ℤ x *ℤ y +ℤ dot_z us vs
  unfolding dot_z
  next-split = s.split ∙ ap (λ z. sum +ℤ z) (ap₂ dot_z eu ev) ∙ sym (+ℤ_assoc sum (x *ℤ y) (dot_z us vs))

  turn : Turn xs ys n sum x y us vs
  turn = record {
    term_fits = sfits-abs (x *ℤ y) (omega (arith, term-small));
    sum_fits = sfits-abs (sum +ℤ x *ℤ y) (omega (arith, next-small));
    summed = record { split = next-split; small = next-small };
  }

-- in a turn: what was read, and what the turn gives
module _ (c : goal.After-from-in-loop-x) where
  x_fits : SFits w16 c.in-Some.x.now
  x_fits = search rules

  y-fits : SFits w16 c.in-Some.y.now
  y-fits = search rules

  gives : Turn c.args.a.now c.args.b.now c.terms-n.result (to_z w64 c.loop-x.sum-bits) c.in-Some.x.now c.in-Some.y.now c.next.new.self.a.rest.now c.next.new.self.b.rest.now
  gives = let e = c.in-Some.ensures.steps in turn c.loop-x.invariant (omega (arith, c.terms-n.ensures)) e.0 e.1 x_fits y-fits

  from-x : to_z w64 (of_z w64 c.from.result) ≡ c.in-Some.x.now
  from-x = let e = c.from.ensures ∙ to_z-of_z x_fits in rw e (read-16-64 x_fits)

  from-y : to_z w64 (of_z w64 c.from-in-loop-x.result) ≡ c.in-Some.y.now
  from-y = let e = c.from-in-loop-x.ensures ∙ to_z-of_z y-fits in rw e (read-16-64 y-fits)

pub overflow_add-sum : goal.overflow_add-sum
overflow_add-sum c = rw (from-x c, from-y c, to_z-of_z (gives c).term_fits) (gives c).sum_fits

pub loop-x-preserved : goal.loop-x-preserved
loop-x-preserved c = rw (from-x c, from-y c, to_z-of_z (gives c).term_fits, to_z-of_z (gives c).sum_fits) (gives c).summed

-- where either list ends, nothing is left to add
none : (us vs : List ℤ) → (length us ≡ 0) ⊎ (length vs ≡ 0) → dot_z us vs ≡ pos 0
unfolding dot_z
none us vs (inl h) = rw (nil_from_length us h)
none us vs (inr h) = rw (nil_from_length vs h) (dot-nil us)

finish : {xs ys us vs : List ℤ} {n : ℕ} {sum : ℤ} → Summed xs ys n sum us vs → dot_z us vs ≡ pos 0 → n ≡ min (length xs) (min (length ys) max_terms) → sum ≡ dot_z (take max_terms xs) ys
finish {xs} {ys} {us} {vs} {n} {sum} s e most =
    sym (dot-terms xs ys n max_terms most ∙ s.split ∙ ap (λ z. sum +ℤ z) e ∙ +ℤ_idr sum)

pub returns : goal.returns
returns c =
    let ended : (length c.loop-x.x-iterator.a.rest.now ≡ 0) ⊎ (length c.loop-x.x-iterator.b.rest.now ≡ 0) = elim c.in-None.ensures.steps [ inl w ↦ inl w.1.0 | inr w ↦ inr w.1.0 ] in
    finish c.loop-x.invariant (none c.loop-x.x-iterator.a.rest.now c.loop-x.x-iterator.b.rest.now ended) c.terms-n.ensures
