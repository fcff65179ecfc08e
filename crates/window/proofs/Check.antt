-- The check of carried sums, on plain values: the sums of all columns in one pass over the rows (`Added` from row to row), and the comparison of
-- these with the sums carried. Assumes nothing.
use mathlib.Core.Path.{◌≡◌}
use mathlib.Core.Bool.{Bool, false, ◌&&◌, decide}
use mathlib.Core.List.{List}
use Prim.Native.Nat.{ℕ, ◌*◌, ◌≤◌}
use native.Mathlib.Omega.{arith}
use lib.Dec.{leb, eqb}
use lib.ListN.{length, take, get_or, replicate, get_or-replicate}
use lib.Seq.{take_all}
use Rattle.num.specs.Tests.{Tells, all_below}
use Rattle.num.proofs.Tests.{tells-no, tells-same, tells-iff, tells_both, tells-le, tells-eq, tells-decide, tells-below}
use Rattle.window.specs.Words.{words}
use Rattle.window.specs.Window.{max_rows, column, ring_rows}
use Rattle.window.specs.Sums.{total_by, Summing, column_sum, Carried, Ring, sums_at, is_carried, is_ring}
use Rattle.window.proofs.Rows.{length_cut}

-- the sums are those of the first n rows
abbrev pub Added : (S : Summing) (w c : ℕ) (bytes : List ℕ) (n : ℕ) → List S.Number → List S.Number → Type 0
Added S w c bytes n fs gs = Carried S c (take n (ring_rows w c bytes)) fs gs

module _ (S : Summing) (w c : ℕ) (bytes : List ℕ) where
  -- no row
  pub added_none : Added S w c bytes 0 (replicate c S.none) (replicate c S.none)
  unfolding total_by column
  added_none = record { firsts = λ sc h. get_or-replicate c sc S.none S.none h; seconds = λ sc h. get_or-replicate c sc S.none S.none h }

  -- all rows
  pub added-all : (n : ℕ) (fs gs : List S.Number) → Added S w c bytes n fs gs → w ≤ n → Carried S c (ring_rows w c bytes) fs gs
  added-all n fs gs sums all = rw (take_all n (ring_rows w c bytes) (omega (arith, length_cut w c (words bytes)))) at sums

  -- the carried sums are tested against those of the rows
  pub sums-told : (fs gs : List S.Number) → Tells (is_carried S c (ring_rows w c bytes) fs gs) (Carried S c (ring_rows w c bytes) fs gs)
  unfolding is_carried
  sums-told fs gs =
      let rows : List (List ℕ) = ring_rows w c bytes in
      tells-iff (all_below c (sums_at S rows fs gs))
      (λ all. record { firsts = λ k h. (all k h).0; seconds = λ k h. (all k h).1 })
      (λ sums k h. (sums.firsts k h, sums.seconds k h))
      (tells-below c (sums_at S rows fs gs) (λ k. (get_or fs k S.none ≡ column_sum S S.f rows k) × (get_or gs k S.none ≡ column_sum S S.g rows k))
      (λ k. tells_both (decide (S.same (get_or fs k S.none) (column_sum S S.f rows k))) (decide (S.same (get_or gs k S.none) (column_sum S S.g rows k))) (tells-decide (S.same (get_or fs k S.none) (column_sum S S.f rows k))) (tells-decide (S.same (get_or gs k S.none) (column_sum S S.g rows k)))))

  pub ring-told : (fs gs : List S.Number) → Tells (is_ring S w c bytes fs gs) (Ring S w c bytes fs gs)
  unfolding is_ring
  ring-told fs gs =
      let carried : Bool = is_carried S c (ring_rows w c bytes) fs gs in
      tells-iff (leb w max_rows && (eqb (length bytes) (2 * (w * c)) && carried))
      (λ all. record { small = all.0; whole = all.1.0; sums = all.1.1 })
      (λ ring. (ring.small, (ring.whole, ring.sums)))
      (tells_both (leb w max_rows) (eqb (length bytes) (2 * (w * c)) && carried) (tells-le w max_rows)
      (tells_both (eqb (length bytes) (2 * (w * c))) carried (tells-eq (length bytes) (2 * (w * c))) (sums-told fs gs)))

  pub ring-no : (fs gs : List S.Number) → (Ring S w c bytes fs gs → ⊥) → false ≡ is_ring S w c bytes fs gs
  ring-no fs gs no-ring = tells-same false (is_ring S w c bytes fs gs) (tells-no no-ring) (ring-told fs gs)
