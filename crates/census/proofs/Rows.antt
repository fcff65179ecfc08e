-- All pairs, row by row: what the loop over the imaginary parts has counted. Assumes nothing.
use mathlib.Core.Path.{◌≡◌, sym, ap, ◌∙◌}
use mathlib.Core.List.{List, ◌++◌, map}
use Prim.Native.Nat.{ℕ, ◌+◌, ◌*◌, ◌/◌, ◌%◌, ◌≤◌, ◌<◌}
use native.Mathlib.Omega.{arith}
use lib.IntN.{ℤ}
use lib.ListN.{length, get_or, replicate}
use Rattle.num.specs.Lists.{build, tallies, plus}
use Rattle.num.proofs.Lists.{length-build, at-build, build-same, build-append}
use Rattle.num.proofs.Grid.{map-build, grid}
use Rattle.num.proofs.Partition.{length-tallies, tally-le, tallies-none, tallies-map, tallies-append}
use Rattle.census.specs.Census.{Pair, bytes, signed_byte, signed_bytes, all_pairs, amplitudes}
use Rattle.census.specs.Rows.{pairs, Countable}

-- the pair of the i-th and the j-th signed byte, and pair p of all
abbrev pub pair_of : ℕ → ℕ → Pair
pair_of i j = record { im = signed_byte i; re = signed_byte j }

abbrev pub pair_at : ℕ → Pair
pair_at p = pair_of (p / bytes) (p % bytes)

pub all-pairs : all_pairs ≡ build pairs pair_at
unfolding all_pairs signed_bytes
all-pairs = grid bytes _ (omega arith) bytes signed_byte pair_of (λ i. map-build _ bytes signed_byte)

-- those of the first k imaginary parts, and one more
abbrev first_rows : ℕ → List Pair
first_rows k = build (k * bytes) pair_at

row_more : (k : ℕ) → first_rows (k + 1) ≡ first_rows k ++ build bytes (pair_of k)
row_more k =
    let e : (k + 1) * bytes ≡ k * bytes + bytes = omega arith in
    ap (λ (n : ℕ). build n pair_at) e ∙ build-append (k * bytes) bytes pair_at
    ∙ ap (λ (l : List Pair). first_rows k ++ l) (build-same bytes (λ j. pair_at (k * bytes + j)) (pair_of k) here)
  where
    here : (j : ℕ) → j < bytes → pair_at (k * bytes + j) ≡ pair_of k j
    here j h =
        let d : (k * 256 + j) / 256 ≡ k = omega arith in let r : (k * 256 + j) % 256 ≡ j = omega arith in
        rw (d, r)

-- what is counted of a pair, n values
module _ (value : ℤ → ℤ → ℕ) (n : ℕ) where
  abbrev value_of : Pair → ℕ
  value_of p = value p.im p.re

  row-values : (k : ℕ) → map (value (signed_byte k)) signed_bytes ≡ build bytes (λ j. value (signed_byte k) (signed_byte j))
  unfolding signed_bytes
  row-values k = map-build (value (signed_byte k)) bytes signed_byte

  -- the counts of the first k rows
  pub record Tallied (counts : List ℕ) (k : ℕ) : Type 0 where
    pub within : k ≤ bytes
    pub are : counts ≡ tallies n value_of (first_rows k)

  pub none-tallied : Tallied (replicate n 0) 0
  unfolding build
  none-tallied = record { within = omega arith; are = sym (tallies-none value_of n) }

  module _ {counts : List ℕ} {k : ℕ} (t : Tallied counts k) where
    pub tallied-long : length counts ≡ n
    tallied-long = ap length t.are ∙ length-tallies value_of n (first_rows k)

    pub countable : k < bytes → n ≤ amplitudes → ((j : ℕ) → j < bytes → value (signed_byte k) (signed_byte j) < n) → Countable (map (value (signed_byte k)) signed_bytes) counts
    countable h few below =
        record {
          whole = ap length (row-values k) ∙ length-build bytes _;
          few = omega (arith, tallied-long);
          places = λ j l. rw (row-values k, at-build bytes (λ i. value (signed_byte k) (signed_byte i)) j 0 l, tallied-long) (below j l);
          space = λ j.
              let e : get_or counts j 0 ≡ get_or (tallies n value_of (first_rows k)) j 0 = ap (λ (c : List ℕ). get_or c j 0) t.are in
              let l = tally-le value_of n (first_rows k) j in let m = length-build (k * bytes) pair_at in
              omega arith;
        }

    pub row-tallied : k < bytes → Tallied (plus counts (tallies (length counts) (λ (v : ℕ). v) (map (value (signed_byte k)) signed_bytes))) (k + 1)
    row-tallied h =
        record {
          within = omega arith;
          are =
              ap (λ (m : ℕ). plus counts (tallies m (λ (v : ℕ). v) (map (value (signed_byte k)) signed_bytes))) tallied-long
              ∙ ap (λ (row : List ℕ). plus counts (tallies n (λ (v : ℕ). v) row)) (row-values k ∙ sym (map-build value_of bytes (pair_of k)))
              ∙ ap (λ (c : List ℕ). plus counts c) (tallies-map value_of n (build bytes (pair_of k)))
              ∙ ap (λ (c : List ℕ). plus c (tallies n value_of (build bytes (pair_of k)))) t.are
              ∙ sym (tallies-append value_of n (first_rows k) (build bytes (pair_of k)))
              ∙ ap (tallies n value_of) (sym (row_more k));
        }

    pub all-tallied : bytes ≤ k → counts ≡ tallies n value_of all_pairs
    all-tallied h =
        let e : k ≡ bytes = omega (arith, t.within) in
        t.are ∙ ap (λ (m : ℕ). tallies n value_of (first_rows m)) e ∙ ap (tallies n value_of) (sym all-pairs)
