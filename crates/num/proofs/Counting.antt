-- A loop that adds to each of the counts in `before` how often its place stands in a row of numbers: p of them are done. Assumes nothing.
use mathlib.Core.Path.{◌≡◌, refl, sym, ap, ◌∙◌}
use mathlib.Core.List.{List}
use Prim.Native.Nat.{ℕ, ◌+◌, ◌≤◌, ◌<◌}
use native.Mathlib.Decide.{ℕ_discrete}
use native.Mathlib.Numerals.{add-one}
use native.Mathlib.Omega.{arith}
use lib.ListN.{length, get_or, take, set, length-set}
use lib.Seq.{get_or-set_same, get_or-set_other, take-suc, take_all, length-take-le, ext_get_or}
use Rattle.num.specs.Lists.{keep, having, tallies, plus}
use Rattle.num.proofs.Lists.{at-build}
use Rattle.num.proofs.Partition.{mark, mark-same, mark-other, having-last, having-le}
use Rattle.num.proofs.Totals.{length-plus, plus-at}

module _ (before row : List ℕ) where
  -- how often number k stands in the first p of the row
  abbrev up_to : ℕ → ℕ → ℕ
  up_to p k = having (λ (v : ℕ). v) (take p row) k

  up_more : (p k : ℕ) → p < length row → up_to (p + 1) k ≡ up_to p k + mark (get_or row p 0) k
  up_more p k h = rw (add-one p, take-suc row p 0 h) (having-last (λ (v : ℕ). v) (take p row) (get_or row p 0) k)

  pub record Counted (counts : List ℕ) (p : ℕ) : Type 0 where
    pub within : p ≤ length row
    pub long : length counts ≡ length before
    pub each : (k : ℕ) → get_or counts k 0 ≡ get_or before k 0 + up_to p k

  pub none-counted : Counted before 0
  unfolding keep
  none-counted = record { within = omega arith; long = refl; each = λ k. omega arith }

  module _ {counts : List ℕ} {p : ℕ} (c : Counted counts p) where
    pub count-le : (k : ℕ) → get_or counts k 0 ≤ get_or before k 0 + p
    count-le k =
        let e = c.each k in let l = having-le (λ (v : ℕ). v) k (take p row) in let m = length-take-le p row c.within in
        omega arith

    -- one number more
    pub counted : (a : ℕ) → a ≡ get_or row p 0 → a < length before → p < length row → Counted (set counts a (get_or counts a 0 + 1)) (p + 1)
    counted a e h l =
        record {
          within = omega arith;
          long = length-set counts a _ ∙ c.long;
          each = λ k. at k (ℕ_discrete k a);
        }
      where
        at : (k : ℕ) → Dec (k ≡ a) → get_or (set counts a (get_or counts a 0 + 1)) k 0 ≡ get_or before k 0 + up_to (p + 1) k
        at k (yes i) =
            let b : a < length counts = omega (arith, c.long) in
            rw i
            (get_or-set_same counts a (get_or counts a 0 + 1) 0 b
            ∙ (let d = c.each a in let m = up_more p a l in let o = mark-same (get_or row p 0) a (sym e) in omega arith))
        at k (no i) =
            let z = mark-other (get_or row p 0) k (λ (d : get_or row p 0 ≡ k). i (sym d ∙ sym e)) in
            get_or-set_other counts a k (get_or counts a 0 + 1) 0 i ∙ c.each k ∙ (let m = up_more p k l in omega arith)

    pub all-counted : length row ≤ p → counts ≡ plus before (tallies (length before) (λ (v : ℕ). v) row)
    unfolding tallies
    all-counted h = ext_get_or 0 counts _ (c.long ∙ sym (length-plus before _)) at
      where
        at : (k : ℕ) → k < length counts → get_or counts k 0 ≡ get_or (plus before (tallies (length before) (λ (v : ℕ). v) row)) k 0
        at k l =
            let n = length before in let b : k < n = omega (arith, c.long) in
            c.each k ∙ ap (λ (xs : List ℕ). get_or before k 0 + having (λ (v : ℕ). v) xs k) (take_all p row h)
            ∙ sym (plus-at before (tallies n (λ (v : ℕ). v) row) k b ∙ ap (λ (t : ℕ). get_or before k 0 + t) (at-build n (having (λ (v : ℕ). v) row) k 0 b))
