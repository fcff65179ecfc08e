-- The range of a column's two sums, for every kind of sums that has one: of any entries of 16 bits, of a column of a ring and of its first rows;
-- and of what is left of them without one entry. Assumes nothing.
use mathlib.Core.Path.{◌≡◌, refl, ap, subst, ◌∙◌}
use mathlib.Core.List.{List, [], ◌∷◌}
use Prim.Native.Nat.{ℕ, zero, suc, ◌+◌, ◌*◌, ◌<◌, ◌≤◌}
use native.Mathlib.Omega.{arith}
use lib.ListN.{length, take, get_or}
use lib.Seq.{length-take-le, get_or-take, take_all}
use Rattle.window.specs.Words.{words}
use Rattle.window.specs.Window.{max_rows, column, ring_rows}
use Rattle.window.specs.Sums.{total_by, Summing, Lawful, column_sum, Ring}
use Rattle.window.proofs.Rows.{length_cut, column-take}
use Rattle.window.proofs.Ring.{ring-at, column-below, length-ring-column}
use Rattle.sliding.specs.Columns.{Ranges, Ranged, Holds}

-- the entries of a list have 16 bits
abbrev pub Small : List ℕ → Type 0
Small xs = (i : ℕ) → i < length xs → get_or xs i 0 < 65536

module _ (S : Summing) (In : Ranges S) (ranged : Ranged S In) where
  pub total-range : (xs : List ℕ) → Small xs → In (length xs) (total_by S.add S.none S.f xs) (total_by S.add S.none S.g xs)
  unfolding total_by
  total-range [] small = ranged.none
  total-range (x ∷ xs) small =
      ranged.more (length xs) x (total_by S.add S.none S.f xs) (total_by S.add S.none S.g xs) (small 0 (omega arith)) (total-range xs (λ i h. small (suc i) (omega arith)))

  -- without the entry i
  record Without (i : ℕ) (xs : List ℕ) : Type 0 where
    first : S.Number
    second : S.Number
    first-is : total_by S.add S.none S.f xs ≡ S.add (S.f (get_or xs i 0)) first
    second-is : total_by S.add S.none S.g xs ≡ S.add (S.g (get_or xs i 0)) second
    range : In (length xs) first second

  module _ (lawful : Lawful S) where
    without : (xs : List ℕ) (i : ℕ) → i < length xs → Small xs → Without i xs
    unfolding total_by
    without [] i h small = absurd (omega arith)
    without (x ∷ xs) zero h small =
        let rest : Small xs = λ i h. small (suc i) (omega arith) in
        record {
          first = total_by S.add S.none S.f xs;
          second = total_by S.add S.none S.g xs;
          first-is = refl;
          second-is = refl;
          range = ranged.wider (length xs) (suc (length xs)) (total_by S.add S.none S.f xs) (total_by S.add S.none S.g xs) (omega arith) (total-range xs rest);
        }
    without (x ∷ xs) (suc i) h small =
        let v : Without i xs = without xs i (omega arith) (λ i h. small (suc i) (omega arith)) in
        record {
          first = S.add (S.f x) v.first;
          second = S.add (S.g x) v.second;
          first-is = ap (S.add (S.f x)) v.first-is ∙ lawful.exchange (S.f x) (S.f (get_or xs i 0)) v.first;
          second-is = ap (S.add (S.g x)) v.second-is ∙ lawful.exchange (S.g x) (S.g (get_or xs i 0)) v.second;
          range = ranged.more (length xs) x v.first v.second (small 0 (omega arith)) v.range;
        }

  module _ (w c : ℕ) (bytes : List ℕ) (bytes_fit : (i : ℕ) → get_or bytes i 0 < 256) (sc : ℕ) (in_row : sc < c) where
    -- the sums of a column over the first n rows, and over all
    pub part-range : (n : ℕ) → n ≤ w → In n (column_sum S S.f (take n (ring_rows w c bytes)) sc) (column_sum S S.g (take n (ring_rows w c bytes)) sc)
    part-range n most =
        let col : List ℕ = column (ring_rows w c bytes) sc in
        let part : length (take n col) ≡ n = length-take-le n col (omega (arith, length-ring-column w c bytes sc)) in
        rw (column-take n (ring_rows w c bytes) sc)
        (subst (λ (k : ℕ). In k (total_by S.add S.none S.f (take n col)) (total_by S.add S.none S.g (take n col))) part
        (total-range (take n col) (λ i h. rw (get_or-take n col i 0 (omega arith)) (column-below w c bytes bytes_fit sc in_row i (omega (arith, length-ring-column w c bytes sc))))))

    pub column-range : In w (column_sum S S.f (ring_rows w c bytes) sc) (column_sum S S.g (ring_rows w c bytes) sc)
    column-range =
        subst (λ (l : List (List ℕ)). In w (column_sum S S.f l sc) (column_sum S S.g l sc))
        (take_all w (ring_rows w c bytes) (omega (arith, length_cut w c (words bytes)))) (part-range w (omega arith))

    -- the carried sums of a ring hold each entry
    pub ring-holds : (lawful : Lawful S) (fs gs : List S.Number) → Ring S w c bytes fs gs → (slot : ℕ) → slot < w
        → Holds S In (get_or (words bytes) (slot * c + sc) 0) (get_or fs sc S.none) (get_or gs sc S.none)
    ring-holds lawful fs gs ring slot in-ring =
        let col : List ℕ = column (ring_rows w c bytes) sc in
        let len : length col ≡ w = length-ring-column w c bytes sc in
        let at : get_or col slot 0 ≡ get_or (words bytes) (slot * c + sc) 0 = ring-at w c bytes slot sc in-ring in_row in
        let v : Without slot col = without lawful col slot (omega arith) (λ i h. column-below w c bytes bytes_fit sc in_row i h) in
        record {
          first = v.first;
          second = v.second;
          first-is = ring.sums.firsts sc in_row ∙ v.first-is ∙ ap (λ (x : ℕ). S.add (S.f x) v.first) at;
          second-is = ring.sums.seconds sc in_row ∙ v.second-is ∙ ap (λ (x : ℕ). S.add (S.g x) v.second) at;
          range = ranged.wider (length col) max_rows v.first v.second (omega (arith, ring.small)) v.range;
        }

-- the carried sums of a ring
pub ring-range : (S : Summing) (In : Ranges S) → Ranged S In → {w c : ℕ} {bytes : List ℕ} {fs gs : List S.Number} → Ring S w c bytes fs gs
    → ((i : ℕ) → get_or bytes i 0 < 256) → (sc : ℕ) → sc < c → In w (get_or fs sc S.none) (get_or gs sc S.none)
ring-range S In ranged {w} {c} {bytes} ring bytes_fit sc k = rw (ring.sums.firsts sc k, ring.sums.seconds sc k) (column-range S In ranged w c bytes bytes_fit sc k)
