-- Angles in binary radians: 65,536 to a turn, -32,768 .. 32,767 (phase.rs, `atan2_brad`). Assumes nothing.
use Rattle.std.specs.Prelude.{cond, ℕ, ◌+◌, ◌-◌, ◌*◌, leb, eqb, ℤ, pos, neg_ℤ, nat_abs, get_or, List}
use Rattle.std.specs.Int.Signed.{lt_z}
use Rattle.num.specs.Nearest.{nearest}
use Rattle.num.specs.Wrap.{wrap16, signed8}
use Rattle.phase.specs.Tables.{atan_octant}

abbrev pub quarter_turn : ℕ
quarter_turn = 16384

abbrev pub half_turn : ℕ
half_turn = 32768

abbrev pub whole_turn : ℕ
whole_turn = 65536

-- the most that a signed byte is from 0
abbrev pub most : ℕ
most = 128

-- the entry of the table for the ratio lo / hi: its 256ths, rounded to the nearest, half going up (phase.rs rounds them down:
-- docs/DIFFERENCES.md, "Phase")
unfoldable pub table_index : (lo hi : ℕ) → ℕ
table_index lo hi = nearest (lo * 256) hi

-- the angle from an axis of a point hi along it and lo from it, where lo is at most hi; 0 at the origin
unfoldable pub octant_angle : (lo hi : ℕ) → ℕ
octant_angle lo hi = cond (eqb hi 0) 0 (get_or atan_octant (table_index lo hi) 0)

-- the angle of (ax, ay) in the first quadrant: up to the diagonal from the x axis, above it a quarter turn less the angle from
-- the y axis
unfoldable pub first_quadrant : (ay ax : ℕ) → ℕ
first_quadrant ay ax = cond (leb ay ax) (octant_angle ay ax) (quarter_turn - octant_angle ax ay)

-- left of the y axis: half a turn less the angle
unfoldable pub mirror_x : ℤ → ℕ → ℕ
mirror_x x a = cond (lt_z x (pos 0)) (half_turn - a) a

-- below the x axis: the angle negated
unfoldable pub mirror_y : ℤ → ℕ → ℤ
mirror_y y a = cond (lt_z y (pos 0)) (neg_ℤ (pos a)) (pos a)

-- the angle of (x, y)
unfoldable pub angle_of : (y x : ℤ) → ℤ
angle_of y x = wrap16 (mirror_y y (mirror_x x (first_quadrant (nat_abs y) (nat_abs x))))

-- the angle of entry i of the I/Q bytes, imaginary before real
unfoldable pub entry_angle : List ℕ → ℕ → ℤ
entry_angle iq i = angle_of (signed8 (get_or iq (2 * i) 0)) (signed8 (get_or iq (2 * i + 1) 0))
