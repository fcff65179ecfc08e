-- The rules of `specs/Rules.antt`, each from one test that antt computes in one pass over the table; and what the order gives of any
-- two entries. Assumes nothing.
use mathlib.Core.Path.{◌≡◌, ap, subst, ◌∙◌}
use mathlib.Core.Bool.{Bool, ◌&&◌}
use mathlib.Core.List.{List, reverse}
use Prim.Native.Nat.{ℕ, zero, suc, ◌+◌, ◌-◌, ◌≤◌, ◌<◌}
use native.Mathlib.Omega.{arith}
use lib.Dec.{T, leb, eqb, eqb→eq, leb→le}
use lib.ListN.{length, get_or, drop, length-drop}
use lib.Seq.{get_or-drop}
use Rattle.num.specs.Sum.{apart, square}
use Rattle.num.specs.Rules.{Ascends, SquaresNear, squares}
use Rattle.num.proofs.Lists.{reverse-long, at-reverse}
use Rattle.num.proofs.Table.{each_of, pairwise, at_pair}

module _ (n top : ℕ) (table : List ℕ) where
  -- the test: n entries from 0 to `top`, none above the one after it
  abbrev ends : Bool
  ends = eqb (get_or table 0 1) 0 && eqb (get_or table (n - 1) 0) top

  abbrev rising : Bool
  rising = pairwise leb table (drop 1 table)

  abbrev pub ascending : Bool
  ascending = eqb (length table) n && (ends && rising)

  pub ascends-by : T ascending → Ascends n top table
  ascends-by t =
      let (all, rest) = each_of (eqb (length table) n) (ends && rising) t in
      let (two, order) = each_of ends rising rest in
      let (first, last) = each_of (eqb (get_or table 0 1) 0) (eqb (get_or table (n - 1) 0) top) two in
      let long : length table ≡ n = eqb→eq (length table) n all in
      record {
        long = long;
        first = eqb→eq (get_or table 0 1) 0 first;
        last = eqb→eq (get_or table (n - 1) 0) top last;
        order = λ i h. (
            let next : get_or (drop 1 table) i 0 ≡ get_or table (i + 1) 0 = get_or-drop 1 table i 0 ∙ (let e : 1 + i ≡ i + 1 = omega arith in ap (λ j. get_or table j 0) e) in
            let below = leb→le (get_or table i 0) (get_or (drop 1 table) i 0) (at_pair leb table (drop 1 table) order i (omega arith) (omega (arith, length-drop 1 table))) in
            omega arith
            );
      }

module _ {n top : ℕ} {table : List ℕ} (a : Ascends n top table) where
  -- an entry and one d places later
  pub ascends : (i d : ℕ) → i + d < n → get_or table i 0 ≤ get_or table (i + d) 0
  ascends i zero h = let e = ap (λ j. get_or table j 0) (let s : i + 0 ≡ i = omega arith in s) in omega arith
  ascends i (suc d) h =
      let e = ap (λ j. get_or table j 0) (let s : i + suc d ≡ i + d + 1 = omega arith in s) in
      omega (arith, ascends i d (omega arith), a.order (i + d) (omega arith))

  pub ascends-le : (i : ℕ) → i < n → get_or table i 0 ≤ top
  ascends-le i h =
      let e = ap (λ j. get_or table j 0) (let s : i + (n - 1 - i) ≡ n - 1 = omega arith in s) in
      omega (arith, ascends i (n - 1 - i) (omega arith), a.last)

module _ (n whole tolerance : ℕ) (table : List ℕ) where
  -- the test: n entries, each with the one as far from the other end
  abbrev close : ℕ → ℕ → Bool
  close a b = leb (apart (square a + square b) whole) tolerance

  abbrev pub near : Bool
  near = eqb (length table) n && pairwise close table (reverse table)

  pub near_by : T near → SquaresNear n whole tolerance table
  near_by t =
      let (all, distances) = each_of (eqb (length table) n) (pairwise close table (reverse table)) t in
      let long : length table ≡ n = eqb→eq (length table) n all in
      record {
        long = long;
        near = λ i h. (
            let opposite : get_or (reverse table) i 0 ≡ get_or table (n - 1 - i) 0 = at-reverse table i 0 (omega arith) ∙ ap (λ m. get_or table (m - 1 - i) 0) long in
            leb→le (apart (squares n table i) whole) tolerance (subst (λ (b : ℕ). T (close (get_or table i 0) b)) opposite (at_pair close table (reverse table) distances i (omega arith) (omega (arith, reverse-long table))))
            );
      }
