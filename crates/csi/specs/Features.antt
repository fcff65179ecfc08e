-- The amplitudes of a sample, their mean and variance, and the same divided by their mean (docs/SPEC.md, "Amplitudes and baseline";
-- csi.rs, `CsiFrame::features` and `Features::normalised`). Assumes nothing.
use Rattle.std.specs.Result.{result_and}
use Rattle.std.specs.Prelude.{Result, Ok, Err, cond, List, ◌++◌, map, ℕ, ◌+◌, ◌-◌, ◌*◌, ◌/◌, min, ltb, eqb, ℤ, nat_abs, length, get_or, take, replicate}
use Rattle.num.specs.Root.{root}
use Rattle.num.specs.Sum.{total, apart, square}
use Rattle.num.specs.Wrap.{signed8}
use Rattle.refusal.specs.declared.Refusal.{Refusal}
use Rattle.csi.specs.Layout.{max_subcarriers, layout_of, entries_of, frame_check}
use Rattle.csi.specs.declared.Features.{Features}

-- the square of the signed number that a byte holds
abbrev pub byte_square : ℕ → ℕ
byte_square b = square (nat_abs (signed8 b))

-- the amplitude of a pair, with two fractional bits: isqrt(16·(im² + re²))
abbrev pub amplitude_of : (im re : ℤ) → ℕ
amplitude_of im re = root (16 * (square (nat_abs im) + square (nat_abs re)))

-- entry k of the I/Q bytes: byte 2k is the imaginary part and byte 2k + 1 the real
unfoldable pub amplitude_at : List ℕ → ℕ → ℕ
amplitude_at iq k = amplitude_of (signed8 (get_or iq (2 * k) 0)) (signed8 (get_or iq (2 * k + 1) 0))

-- the floored mean, and the floored mean of the square differences from it
abbrev pub mean_of : List ℕ → ℕ
mean_of xs = total xs / length xs

unfoldable pub variance_from : (mean : ℕ) → List ℕ → ℕ
variance_from mean xs = total (map (λ x. square (apart x mean)) xs) / length xs

-- an array of amplitudes with the mean and the variance of the first n
abbrev pub described_as : (amplitude : List ℕ) (n : ℕ) → Features
described_as amplitude n =
    record {
      amplitude = amplitude;
      count = n;
      mean = mean_of (take n amplitude);
      variance = variance_from (mean_of (take n amplitude)) (take n amplitude);
    }

-- the features that these amplitudes have: 0 stands behind them
unfoldable pub describe : List ℕ → Features
unfolding variance_from total
describe xs =
    record {
      amplitude = xs ++ replicate (max_subcarriers - length xs) 0;
      count = length xs;
      mean = mean_of xs;
      variance = variance_from (mean_of xs) xs;
    }

-- the features of the entries that a tag's layout uses
unfoldable pub features_of : List ℕ → (tag : ℕ) → Features
unfolding describe layout_of entries_of amplitude_at
features_of iq tag = describe (map (amplitude_at iq) (entries_of (layout_of tag)))

-- the amplitudes in use
abbrev pub used : Features → List ℕ
used f = take f.count f.amplitude

-- a · 1024 · n / Σa, clipped
unfoldable pub scale : (n sum a : ℕ) → ℕ
scale n sum a = min 65535 (a * 1024 * n / sum)

unfoldable pub normalised_of : Features → Features
unfolding describe scale total
normalised_of f =
    cond (eqb (total (used f)) 0) f
    (describe (map (scale f.count (total (used f))) (used f)))

-- ---- what the calls answer
unfoldable pub features_answer : List ℕ → (tag : ℕ) → Result Features Refusal
unfolding frame_check features_of
features_answer iq tag = result_and (frame_check (length iq) tag) (Ok (features_of iq tag))

-- at most 64 amplitudes are said to be in use
abbrev pub count_check : Features → Result (Unit {0}) Refusal
count_check f = cond (ltb max_subcarriers f.count) (Err Refusal.Count) (Ok tt)

unfoldable pub normalised_answer : Features → Result Features Refusal
unfolding normalised_of
normalised_answer f = cond (ltb max_subcarriers f.count) (Err Refusal.Count) (Ok (normalised_of f))
