-- The baseline of calibrated variances, and the distance from it (docs/SPEC.md, "Amplitudes and baseline"; fingerprint.rs). Assumes nothing.
use Rattle.std.specs.Prelude.{Result, Ok, Err, Bool, cond, not, ◌&&◌, List, ℕ, ◌+◌, ◌*◌, ◌/◌, min, ltb, leb, eqb, length}
use Rattle.std.specs.Result.{result_unwrap_or}
use Rattle.refusal.specs.declared.Refusal.{Refusal}
use Rattle.num.specs.Sum.{apart, total}
use Rattle.csi.specs.Layout.{max_subcarriers}
use Rattle.csi.specs.declared.Features.{Features}
use Rattle.fingerprint.specs.declared.Baseline.{Baseline}

-- the most frames, and the largest variance of 32 bits
abbrev pub max_frames : ℕ
max_frames = 65535

abbrev pub max_variance : ℕ
max_variance = 4294967295

abbrev pub baseline : (sum frames : ℕ) → Baseline
baseline s n = record { sum = s; frames = n }

abbrev pub fresh : Baseline
fresh = baseline 0 0

-- in range: not too many frames, each with a variance of 32 bits
unfoldable pub good : Baseline → Bool
good b = leb b.frames max_frames && leb b.sum (b.frames * max_variance)

-- the mean variance, 0 without frames
unfoldable pub mean_of : Baseline → ℕ
mean_of b = cond (eqb b.frames 0) 0 (b.sum / b.frames)

-- |variance − mean| · 1000 / mean, at most 65,535, and 0 without a mean
unfoldable pub distance_from : (mean variance : ℕ) → ℕ
distance_from mean variance = cond (eqb mean 0) 0 (min 65535 (apart variance mean * 1000 / mean))

-- one variance more
abbrev pub fed : Baseline → (variance : ℕ) → Baseline
fed b v = baseline (b.sum + v) (b.frames + 1)

-- ---- what the calls answer. Refused: a baseline out of range, a count above 64, a full baseline. A frame of count 0 is ignored
-- the refusals' numbers, 0 for none
abbrev pub calibrate_refusal : Baseline → Features → ℕ
calibrate_refusal b f =
    cond (not (good b)) 2 (cond (ltb max_subcarriers f.count) 7 (cond (eqb f.count 0) 0 (cond (eqb b.frames max_frames) 8 0)))

abbrev pub mean_refusal : Baseline → ℕ
mean_refusal b = cond (good b) 0 2

abbrev pub distance_refusal : Baseline → Features → ℕ
distance_refusal b f = cond (not (good b)) 2 (cond (ltb max_subcarriers f.count) 7 0)

-- a baseline in range, or the refusal
abbrev pub range_check : Baseline → Result Baseline Refusal
range_check b = cond (good b) (Ok b) (Err Refusal.Memory)

unfoldable pub calibrated_of : Baseline → Features → Result Baseline Refusal
unfolding good
calibrated_of b f =
    cond (not (good b)) (Err Refusal.Memory)
    (cond (ltb max_subcarriers f.count) (Err Refusal.Count)
    (cond (eqb f.count 0) (Ok b)
    (cond (eqb b.frames max_frames) (Err Refusal.Full)
    (Ok (fed b f.variance)))))

unfoldable pub mean_answer : Baseline → Result ℕ Refusal
unfolding good mean_of
mean_answer b = cond (good b) (Ok (mean_of b)) (Err Refusal.Memory)

unfoldable pub distance_answer : Baseline → Features → Result ℕ Refusal
unfolding good mean_of distance_from
distance_answer b f =
    cond (not (good b)) (Err Refusal.Memory)
    (cond (ltb max_subcarriers f.count) (Err Refusal.Count)
    (cond (eqb f.count 0) (Ok 0)
    (Ok (distance_from (mean_of b) f.variance))))

-- the baseline that stands after an answer
abbrev pub standing : Baseline → Result Baseline Refusal → Baseline
standing b answer = result_unwrap_or answer b

-- the baseline of these calibrated variances
unfoldable pub baseline_of : List ℕ → Baseline
unfolding total
baseline_of vs = baseline (total vs) (length vs)
