-- The parabola through a peak, the rate, and how sure it is (vitals.rs, `estimate`). Assumes nothing.
use Rattle.std.specs.Prelude.{ℕ, ◌*◌, min, max, Bool, cond, ◌&&◌, ltb, leb, ℤ, pos, negsuc, ◌+ℤ◌, ◌-ℤ◌, ◌*ℤ◌}
use Rattle.std.specs.Int.Signed.{lt_z, quot_z}
use Rattle.num.specs.Clamp.{clamp_z}
use Rattle.num.specs.Nearest.{nearest}

-- a - 2b + c
abbrev pub bend : ℤ → ℤ → ℤ → ℤ
bend a b c = a -ℤ pos 2 *ℤ b +ℤ c

-- where the parabola through a, b and c has its top, in sixteenths from b's place
abbrev pub vertex : ℤ → ℤ → ℤ → ℤ
vertex a b c = cond (lt_z (bend a b c) (pos 0)) (clamp_z (negsuc 7) (pos 8) (quot_z ((a -ℤ c) *ℤ pos 8) (bend a b c))) (pos 0)

-- a negative number counts as 0
abbrev pub natural : ℤ → ℕ
natural (pos n) = n
natural (negsuc n) = 0

-- the lag in sixteenths, moved to the top of the parabola
abbrev pub refined : ℕ → ℤ → ℕ
refined best delta = max 16 (natural (pos (best * 16) +ℤ delta))

-- ten times the rate per minute of a period of lag sixteenths of a sample
abbrev pub bpm_of : ℕ → ℕ → ℕ
bpm_of rate lag = min (nearest (9600 * rate) lag) 65535

-- the peak's height for each column that was used, in permille
abbrev pub confidence_of : ℤ → ℕ → ℕ
confidence_of peak used = min 1000 (natural (quot_z peak (pos used)))

-- strictly inside the band, and sure enough
abbrev pub accepted_at : (lo hi best confidence accept : ℕ) → Bool
accepted_at lo hi best confidence accept = ltb lo best && (ltb best hi && leb accept confidence)
