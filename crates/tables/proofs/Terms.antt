-- The sine's series from its last term back: the terms that are left, and those behind them. Assumes nothing.
use mathlib.Core.Path.{◌≡◌, ap, sym, ◌∙◌}
use mathlib.Core.List.{List, [], ◌∷◌, ◌++◌, append_assoc}
use Prim.Native.Nat.{ℕ, ◌+◌, ◌≤◌, ◌<◌}
use native.Mathlib.Omega.{arith}
use lib.ListN.{get_or, length, length-append}
use lib.Seq.{get_or-append_seam}
use Rattle.std.proofs.lemmas.List.{get_or-append-add}
use Rattle.num.proofs.Table.{below-le}
use Rattle.tables.specs.Tables.{sine_terms, less, alternating}

-- no term is above the one before it, nor so above the first
pub terms-fall : (k : ℕ) → k < length sine_terms → get_or sine_terms (k + 1) 0 ≤ get_or sine_terms k 0
terms-fall = below-le (λ k. get_or sine_terms (k + 1) 0) (λ k. get_or sine_terms k 0) (length sine_terms) tt

pub first-most : (k : ℕ) → k < length sine_terms → get_or sine_terms k 0 ≤ get_or sine_terms 0 0
first-most = below-le (λ k. get_or sine_terms k 0) (λ k. get_or sine_terms 0 0) (length sine_terms) tt

-- x is the series of the terms behind those that are left
pub record Behind (s q : ℕ) (left : List ℕ) (x : ℕ) : Type 0 where
  pub behind : List ℕ
  pub whole : left ++ behind ≡ sine_terms
  pub is : x ≡ alternating s q behind
  pub small : x ≤ get_or behind 0 0

module _ (s q : ℕ) (left : List ℕ) (a x : ℕ) (b : Behind s q (left ++ a ∷ []) x) where
  at-last : left ++ a ∷ b.behind ≡ sine_terms
  at-last = sym (append_assoc left (a ∷ []) b.behind) ∙ b.whole

  pub last-fits : (x ≤ a) × (a ≤ get_or sine_terms 0 0)
  last-fits =
      let n = length left in
      let few : n < length sine_terms = omega (arith, length-append left (a ∷ b.behind), ap length at-last) in
      let here : get_or sine_terms n 0 ≡ a = ap (λ ts. get_or ts n 0) (sym at-last) ∙ get_or-append_seam left a b.behind 0 in
      let next : get_or sine_terms (n + 1) 0 ≡ get_or b.behind 0 0 = ap (λ ts. get_or ts (n + 1) 0) (sym at-last) ∙ get_or-append-add left (a ∷ b.behind) 1 0 in
      let falls : get_or sine_terms (n + 1) 0 ≤ get_or sine_terms n 0 = terms-fall n few in
      (omega (arith, b.small, falls, here, next), omega (arith, first-most n few, here))

  pub one-more : (y : ℕ) → y ≡ less s q a x → y ≤ a → Behind s q left y
  unfolding alternating
  one-more y e h = record { behind = a ∷ b.behind; whole = at-last; is = e ∙ ap (less s q a) b.is; small = h }

pub all-behind : (s q : ℕ) (left : List ℕ) (x : ℕ) → Behind s q left x → length left ≡ 0 → (x ≡ alternating s q sine_terms) × (x ≤ get_or sine_terms 0 0)
all-behind s q [] x b e = (b.is ∙ ap (alternating s q) b.whole, omega (arith, b.small, ap (λ ts. get_or ts 0 0) b.whole))
all-behind s q (a ∷ left) x b e = absurd (omega arith)
