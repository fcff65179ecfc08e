-- The columns' correlations as they are added, one column a turn. Assumes nothing.
use mathlib.Core.Path.{◌≡◌, sym, ap, ◌∙◌}
use mathlib.Core.List.{List, [], ◌∷◌, ◌++◌, map}
use Prim.Native.Nat.{ℕ, zero, suc, ◌+◌, ◌*◌, ◌≤◌}
use native.Mathlib.Numerals.{add-one}
use native.Mathlib.Decide.{ℕ_discrete}
use native.Mathlib.Omega.{arith}
use borrow.Author.Tests.{lt-ltb, le-ltb}
use lib.Dec.{ltb}
use lib.ListN.{length, length-append}
use lib.IntN.{ℤ, pos, ◌+ℤ◌}
use Rattle.num.specs.Lists.{build, keep}
use Rattle.num.specs.Sum.{sum_z}
use Rattle.num.proofs.Abs.{abs-zero}
use Rattle.num.proofs.Lists.{at-build, build-more, keep-yes, keep-no}
use Rattle.num.proofs.SumZ.{sum-map-snoc}
use Rattle.window.specs.Window.{columns, ring_rows, window_of, width}
use Rattle.window.specs.Words.{words}
use Rattle.window.proofs.Rows.{length_cut}
use Rattle.window.proofs.Ring.{length-ring-row}
use Rattle.window.proofs.View.{window-width}
use Rattle.vitals.specs.Series.{at, prepared}
use Rattle.vitals.specs.Correlation.{energy, corr_of, rhythmic, curve}
use Rattle.vitals.specs.Steps.{Within, Joined}
use Rattle.estimator.specs.Estimate.{series, columns_of}

-- the columns so far that have energy
abbrev pub so_far : ℕ → List (List ℕ) → ℕ → List (List ℤ)
so_far m blocks sc = rhythmic (build sc (λ j. prepared m (series blocks j)))

-- s holds the sums of the first sc columns, `used` of which have energy
pub record Summing (m : ℕ) (blocks : List (List ℕ)) (hi sc used : ℕ) (s : List ℤ) : Type 0 where
  pub count : used ≡ length (so_far m blocks sc)
  pub most : used ≤ sc
  pub first : at s 0 ≡ pos 0
  pub each : (k : ℕ) → 1 ≤ k → k ≤ hi + 1 → at s k ≡ sum_z (map (λ x. corr_of x k) (so_far m blocks sc))

module _ (m : ℕ) (blocks : List (List ℕ)) (hi : ℕ) where
  pub begun : (used : ℕ) (s : List ℤ) → used ≡ 0 → Within (2000 * used) s → Summing m blocks hi 0 used s
  unfolding build keep sum_z
  begun used s e h = record {
    count = e;
    most = omega arith;
    first = abs-zero (at s 0) (omega (arith, h 0));
    each = λ k a b. abs-zero (at s k) (omega (arith, h k));
  }

  module _ (sc used r : ℕ) (s t : List ℤ) (inv : Summing m blocks hi sc used s) (joined : Joined (prepared m (series blocks sc)) (hi + 1) used s r t) where
    x : List ℤ
    x = prepared m (series blocks sc)

    f : ℕ → List ℤ
    f j = prepared m (series blocks j)

    -- one column more, with energy or without
    with-energy : (energy x ≡ 0 → ⊥) → so_far m blocks (sc + 1) ≡ so_far m blocks sc ++ (x ∷ [])
    unfolding x f
    with-energy g = rw (add-one sc, build-more sc f) (keep-yes (λ y. ltb 0 (energy y)) (build sc f) x (lt-ltb 0 (energy x) (omega arith)))

    without : energy x ≡ 0 → so_far m blocks (sc + 1) ≡ so_far m blocks sc
    unfolding x f
    without e = rw (add-one sc, build-more sc f) (keep-no (λ y. ltb 0 (energy y)) (build sc f) x (le-ltb 0 (energy x) (omega arith)))

    none : energy x ≡ 0 → Summing m blocks hi (sc + 1) r t
    unfolding x
    none e =
        let same = joined.none e in
        rw (same.0, same.1) (record {
          count = inv.count ∙ ap length (sym (without e));
          most = omega (arith, inv.most);
          first = inv.first;
          each = λ k a b. inv.each k a b ∙ ap (λ (xs : List (List ℤ)). sum_z (map (λ x. corr_of x k) xs)) (sym (without e));
        })

    some : (energy x ≡ 0 → ⊥) → Summing m blocks hi (sc + 1) r t
    unfolding x
    some g =
        let more = joined.some g in
        record {
          count = more.0 ∙ omega (arith, inv.count, ap length (with-energy g), length-append (so_far m blocks sc) (x ∷ []));
          most = omega (arith, inv.most, more.0);
          first = more.1.first ∙ inv.first;
          each = λ k a b. more.1.each k a b ∙ ap (λ (z : ℤ). z +ℤ corr_of x k) (inv.each k a b)
              ∙ sym (ap (λ (xs : List (List ℤ)). sum_z (map (λ x. corr_of x k) xs)) (with-energy g) ∙ sum-map-snoc (λ x. corr_of x k) (so_far m blocks sc) x);
        }

    pub turn : Summing m blocks hi (sc + 1) r t
    unfolding x
    turn = go (ℕ_discrete (energy x) 0)
      where
        go : Dec (energy x ≡ 0) → Summing m blocks hi (sc + 1) r t
        go (yes e) = none e
        go (no g) = some g

  -- all columns are in
  pub finish : (n used : ℕ) (s : List ℤ) → Summing m blocks hi n used s → (k : ℕ) → k ≤ hi + 1 → at s k ≡ at (curve (so_far m blocks n) hi) k
  unfolding curve
  finish n used s h zero b = h.first
  finish n used s h (suc k) b =
      h.each (suc k) (omega arith) b ∙ sym (at-build (hi + 1) (λ k. sum_z (map (λ x. corr_of x (suc k)) (so_far m blocks n))) k (pos 0) (omega arith))

-- the columns of a full window
module _ (n next count : ℕ) (bytes : List ℕ) (whole : length bytes ≡ 2 * (n * columns)) (some : 1 ≤ n) (narrow : count ≤ columns) where
  full-width : width (window_of next n count (ring_rows n columns bytes)) ≡ count
  full-width =
      window-width next n count columns (ring_rows n columns bytes)
      (λ i h. length-ring-row n columns bytes whole i (rw (length_cut n columns (words bytes)) at h)) narrow some (omega (arith, length_cut n columns (words bytes)))

  pub all-columns : (m : ℕ) → so_far m (window_of next n count (ring_rows n columns bytes)) count ≡ columns_of m (window_of next n count (ring_rows n columns bytes))
  unfolding columns_of
  all-columns m = rw full-width
