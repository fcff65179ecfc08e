-- The entries of a layout: how many there are, and which; and the layouts of the tags. Assumes nothing.
use mathlib.Core.Path.{◌≡◌, refl, sym, ap, ◌∙◌}
use mathlib.Core.Bool.{true}
use mathlib.Core.List.{List, ◌∷◌, ◌++◌, map, map-append}
use mathlib.Core.Logic.{by_cases}
use Prim.Native.Nat.{ℕ, zero, suc, ◌+◌, ◌-◌, ◌≤◌, ◌<◌}
use native.Mathlib.Nat.{le_of_suc-le-suc, not-suc-le-zero, add-zero}
use native.Mathlib.Decide.{dec_lt}
use native.Mathlib.Omega.{arith}
use lib.Dec.{leb}
use borrow.Author.Tests.{leb-true}
use lib.ListN.{length, get_or, take, drop, length-append, get_or-append}
use lib.Seq.{drop-cons, get_or-append-add}
use Rattle.num.proofs.Logic.{both}
use Rattle.num.proofs.Table.{between_le}
use Rattle.csi.specs.Layout.{max_subcarriers, layouts, known, layout_of, entries_of, up_from, Usable}
use Rattle.csi.specs.declared.Layout.{Layout}

pub length-up_from : (a n : ℕ) → length (up_from a n) ≡ n
unfolding up_from
length-up_from a zero = refl
length-up_from a (suc n) = ap suc (length-up_from (suc a) n)

pub get_or-up_from : (a n k : ℕ) → k < n → get_or (up_from a n) k 0 ≡ a + k
unfolding up_from
get_or-up_from a zero k h = absurd (not-suc-le-zero h)
get_or-up_from a (suc n) zero h = sym (add-zero a)
get_or-up_from a (suc n) (suc k) h = get_or-up_from (suc a) n k (le_of_suc-le-suc h) ∙ omega arith

-- what stands at those places is a part of the list
pub map-up_from : (xs : List ℕ) (a n : ℕ) → a + n ≤ length xs → map (λ k. get_or xs k 0) (up_from a n) ≡ take n (drop a xs)
unfolding up_from
map-up_from xs a zero h = refl
map-up_from xs a (suc n) h =
    let inside : a < length xs = omega arith in
    ap (λ ys. get_or xs a 0 ∷ ys) (map-up_from xs (suc a) n (omega arith)) ∙ rw (drop-cons xs a 0 inside)

module _ (l : Layout) where
  abbrev n1 : ℕ
  n1 = l.end - l.start

  abbrev n2 : ℕ
  n2 = l.end2 - l.start2

  pub length-entries : length (entries_of l) ≡ n1 + n2
  unfolding entries_of
  length-entries =
      length-append (up_from l.start n1) (up_from l.start2 n2)
      ∙ (let e = length-up_from l.start n1 in let f = length-up_from l.start2 n2 in omega arith)

  -- entry k, in the first range and in the second
  pub first : (k : ℕ) → k < n1 → l.start + k ≡ get_or (entries_of l) k 0
  unfolding entries_of
  first k h =
      sym (get_or-append (up_from l.start n1) (up_from l.start2 n2) 0 k (omega (arith, length-up_from l.start n1))
      ∙ get_or-up_from l.start n1 k h)

  pub second : (k : ℕ) → n1 ≤ k → k < n1 + n2 → l.start2 + (k - n1) ≡ get_or (entries_of l) k 0
  unfolding entries_of
  second k h i =
      let e : length (up_from l.start n1) + (k - n1) ≡ k = omega (arith, length-up_from l.start n1) in
      sym (ap (λ j. get_or (up_from l.start n1 ++ up_from l.start2 n2) j 0) (sym e)
      ∙ get_or-append-add (up_from l.start n1) (up_from l.start2 n2) (k - n1) 0
      ∙ get_or-up_from l.start2 n2 (k - n1) (omega arith))

  -- the elements at the entries in use: two parts of the list
  pub parts : (xs : List ℕ) → Usable l → l.entries ≤ length xs
      → map (λ k. get_or xs k 0) (entries_of l) ≡ take n1 (drop l.start xs) ++ take n2 (drop l.start2 xs)
  unfolding entries_of
  parts xs u h =
      rw (map-append, map-up_from xs l.start n1 (omega (arith, u.up, u.end)), map-up_from xs l.start2 n2 (omega (arith, u.up2, u.end2)))

  -- each entry in use is there
  pub inside : Usable l → (k : ℕ) → k < length (entries_of l) → get_or (entries_of l) k 0 < l.entries
  inside u k h =
      let n = length-entries in
      by_cases (dec_lt k n1)
      (λ (i : k < n1). omega (arith, first k i, u.end))
      (λ i. omega (arith, second k (omega arith) (omega arith), u.end2))

-- one computed test of all layouts for each of the facts
module _ (tag : ℕ) (e : known tag ≡ true) where
  pub in_table : (1 ≤ tag) × (tag ≤ length layouts)
  unfolding known
  in_table = let p = both (leb 1 tag) (leb tag (length layouts)) e in (leb-true 1 tag p.0, leb-true tag (length layouts) p.1)

  pub usable : Usable (layout_of tag)
  unfolding layouts layout_of entries_of up_from
  usable =
      let low = in_table.0 in
      let high : tag < 1 + length layouts = omega (arith, in_table.1) in
      record {
        some = between_le (λ t. 1) (λ t. length (entries_of (layout_of t))) 1 (length layouts) tt tag low high;
        most = between_le (λ t. length (entries_of (layout_of t))) (λ t. max_subcarriers) 1 (length layouts) tt tag low high;
        up = between_le (λ t. (layout_of t).start) (λ t. (layout_of t).end) 1 (length layouts) tt tag low high;
        up2 = between_le (λ t. (layout_of t).start2) (λ t. (layout_of t).end2) 1 (length layouts) tt tag low high;
        end = between_le (λ t. (layout_of t).end) (λ t. (layout_of t).entries) 1 (length layouts) tt tag low high;
        end2 = between_le (λ t. (layout_of t).end2) (λ t. (layout_of t).entries) 1 (length layouts) tt tag low high;
        entries = between_le (λ t. (layout_of t).entries) (λ t. max_subcarriers) 1 (length layouts) tt tag low high;
      }
