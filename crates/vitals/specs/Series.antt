-- A series of samples: its mean taken off, and its moving average (vitals.rs, `estimate` and `highpass`). Assumes nothing.
use Rattle.std.specs.Prelude.{ℕ, ◌+◌, ◌-◌, ◌/◌, min, max, cond, List, map, ltb, length, get_or, ℤ, pos, negsuc, ◌-ℤ◌}
use Rattle.std.proofs.Math.Seq.{slice}
use Rattle.std.specs.Int.Signed.{quot_z}
use Rattle.num.specs.Sum.{sum_z}
use Rattle.num.specs.Clamp.{clamp_z}
use Rattle.num.specs.Lists.{build}

-- sample k, 0 past the end
abbrev pub at : List ℤ → ℕ → ℤ
at x k = get_or x k (pos 0)

-- within the range of an i16
abbrev pub clamp16 : ℤ → ℤ
clamp16 z = clamp_z (negsuc 32767) (pos 32767) z

-- the mean, towards zero
abbrev pub mean_of : List ℤ → ℤ
mean_of x = quot_z (sum_z x) (pos (length x))

-- each sample less the mean of all
unfoldable pub centred : List ℤ → List ℤ
centred x = map (λ (v : ℤ). clamp16 (v -ℤ mean_of x)) x

-- half of a window of m of n samples, at least 1: m / 2 samples on both sides, also of an even m
abbrev pub half_of : ℕ → ℕ → ℕ
half_of m n = max 1 (min m n / 2)

-- sample i and half the window on either side of it, as far as they lie in the series
abbrev pub around : ℕ → List ℤ → ℕ → List ℤ
around half x i = slice (i - half) (i + half + 1) x

-- each sample less the mean of those around it
unfoldable pub highpassed : ℕ → List ℤ → List ℤ
highpassed m x = build (length x) (λ i. clamp16 (at x i -ℤ mean_of (around (half_of m (length x)) x i)))

-- what is correlated: the mean off, and the slow part where m is above 1
abbrev pub prepared : ℕ → List ℤ → List ℤ
prepared m x = cond (ltb 1 m) (highpassed m (centred x)) (centred x)
