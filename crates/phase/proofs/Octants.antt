-- What the code's steps say of the definitions in `specs/Angle.antt`. Assumes nothing.
use mathlib.Core.Path.{◌≡◌, ap, ◌∙◌}
use Prim.Native.Nat.{ℕ, ◌-◌, ◌*◌, ◌≤◌, ◌<◌, min, max}
use native.Mathlib.Omega.{arith}
use borrow.Author.Tests.{le-leb, lt-leb, eq-eqb, ne_eqb}
use lib.ListN.{get_or}
use Rattle.num.proofs.Nearest.{nearest-le}
use Rattle.phase.specs.Tables.{atan_octant, entries}
use Rattle.phase.specs.Angle.{table_index, octant_angle, first_quadrant, quarter_turn}

-- a ratio of at most 1 is in the table
pub index_lt : (lo hi : ℕ) → lo ≤ hi → 1 ≤ hi → table_index lo hi < entries
unfolding table_index
index_lt lo hi h some = let k = nearest-le 256 hi (lo * 256) some (omega arith) in omega arith

-- the origin, and any other point
module _ (lo hi : ℕ) where
  pub octant_origin : hi ≡ 0 → 0 ≡ octant_angle lo hi
  unfolding octant_angle
  octant_origin e = rw (eq-eqb hi 0 e)

  pub octant_read : (hi ≡ 0 → ⊥) → get_or atan_octant (table_index lo hi) 0 ≡ octant_angle lo hi
  unfolding octant_angle
  octant_read h = rw (ne_eqb hi 0 h)

-- the smaller distance over the larger, on either side of the diagonal
module _ (ay ax : ℕ) {a : ℕ} (e : a ≡ octant_angle (min ay ax) (max ay ax)) where
  pub below_diagonal : ay ≤ ax → a ≡ first_quadrant ay ax
  unfolding first_quadrant
  below_diagonal h =
      let l : min ay ax ≡ ay = omega arith in let m : max ay ax ≡ ax = omega arith in
      rw (le-leb ay ax h) (e ∙ rw (l, m))

  pub above_diagonal : ax < ay → quarter_turn - a ≡ first_quadrant ay ax
  unfolding first_quadrant
  above_diagonal h =
      let l : min ay ax ≡ ax = omega arith in let m : max ay ax ≡ ay = omega arith in
      rw (lt-leb ay ax h) (ap (λ b. quarter_turn - b) (e ∙ rw (l, m)))
