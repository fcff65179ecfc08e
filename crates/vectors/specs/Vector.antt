-- The unit vector of an angle, by its 16 bits: 65,536 to a turn. And the length of a mean of such vectors. Assumes nothing.
use Rattle.std.specs.Prelude.{ℕ, suc, ◌+◌, ◌-◌, ◌*◌, ◌/◌, ◌%◌, min, cond, eqb, ℤ, pos, negsuc, neg_ℤ, nat_abs, get_or}
use Rattle.num.specs.Nearest.{nearest}
use Rattle.num.specs.Wrap.{mod_z}
use Rattle.num.specs.Root.{root}
use Rattle.vectors.specs.Tables.{sin_quarter}

-- the bits of an angle
abbrev pub bits : ℤ → ℕ
bits z = mod_z z 65536

-- the quarter turn that an angle lies in, and its step there of 256
abbrev pub quarter : ℕ → ℕ
quarter b = b / 64 / 256

abbrev pub step : ℕ → ℕ
step b = b / 64 % 256

-- by the quarter turn
abbrev pub by_quarter : ℕ → ℤ → ℤ → ℤ → ℤ → ℤ
by_quarter q a b c d = cond (eqb q 0) a (cond (eqb q 1) b (cond (eqb q 2) c d))

-- cosine and sine, scaled to 16,384, of the angle with the bits b
unfoldable pub cos_at : ℕ → ℤ
cos_at b =
    let s = pos (get_or sin_quarter (step b) 0) in
    let c = pos (get_or sin_quarter (256 - step b) 0) in
    by_quarter (quarter b) c (neg_ℤ s) (neg_ℤ c) s

unfoldable pub sin_at : ℕ → ℤ
sin_at b =
    let s = pos (get_or sin_quarter (step b) 0) in
    let c = pos (get_or sin_quarter (256 - step b) 0) in
    by_quarter (quarter b) s c (neg_ℤ s) (neg_ℤ c)

-- a / b rounded to the nearest, halves away from zero
unfoldable pub div_round : ℤ → ℕ → ℤ
div_round (pos a) b = pos (nearest a b)
div_round (negsuc a) b = neg_ℤ (pos (nearest (suc a) b))

-- the squared length of the mean of w vectors that add up to (c, s), each component rounded
unfoldable pub mean_square : ℤ → ℤ → ℕ → ℕ
mean_square c s w = nat_abs (div_round c w) * nat_abs (div_round c w) + nat_abs (div_round s w) * nat_abs (div_round s w)

-- the root, taken at double resolution and rounded
abbrev pub rounded_root : ℕ → ℕ
rounded_root sq = (root (4 * sq) + 1) / 2

-- what is missing of a length of 16,384, in parts per million, from the squared length
unfoldable pub missing_ppm : ℕ → ℕ
missing_ppm sq = (16384 - min 16384 (rounded_root sq)) * 15625 / 256

-- the circular variance of w angles whose unit vectors add up to (c, s), in parts per million
unfoldable pub column_ppm : (w : ℕ) (c s : ℤ) → ℕ
column_ppm w c s = missing_ppm (mean_square c s w)
