-- The correlation of a series with itself, and the sum of the columns' (vitals.rs, `estimate`). Assumes nothing.
use Rattle.std.specs.Prelude.{ℕ, suc, ◌+◌, ◌-◌, ◌*◌, List, ◌∷◌, map, ltb, length, drop, ℤ, pos, negsuc, nat_abs, ◌*ℤ◌}
use Rattle.std.specs.Int.Signed.{quot_z}
use Rattle.num.specs.Sum.{sum_z, dot_z}
use Rattle.num.specs.Clamp.{clamp_z}
use Rattle.num.specs.Lists.{build, keep}

-- the sum of the squares
abbrev pub energy : List ℤ → ℕ
energy x = nat_abs (dot_z x x)

-- the sum of the products of samples that are lag apart
abbrev pub lagged : List ℤ → ℕ → ℤ
lagged x lag = dot_z x (drop lag x)

-- a sum r of products at a lag of n samples over the energy e, in permille, corrected for the overlap, between -2000 and 2000
abbrev pub rho_of : ℤ → (e n lag : ℕ) → ℤ
rho_of r e n lag = clamp_z (negsuc 1999) (pos 2000) (quot_z (r *ℤ pos 1000 *ℤ pos n) (pos ((n - lag) * e)))

unfoldable pub corr_of : List ℤ → ℕ → ℤ
corr_of x lag = rho_of (lagged x lag) (energy x) (length x) lag

-- the series that have energy
abbrev pub rhythmic : List (List ℤ) → List (List ℤ)
rhythmic xs = keep (λ x. ltb 0 (energy x)) xs

-- their correlations, summed: by lag, from 1 to hi + 1. The entry 0 is not used
unfoldable pub curve : List (List ℤ) → (hi : ℕ) → List ℤ
curve xs hi = pos 0 ∷ build (hi + 1) (λ k. sum_z (map (λ x. corr_of x (suc k)) xs))
