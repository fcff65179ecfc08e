-- A baseline as the calls gave it is never refused as out of range (docs/SPEC.md, "Who causes which refusal"). Theorems in proofs/Given.antt. Assumes nothing.
use Rattle.std.specs.Prelude.{◌≡◌, true, List, [], ◌∷◌, ◌≤◌}
use Rattle.csi.specs.declared.Features.{Features}
use Rattle.fingerprint.specs.Baseline.{max_variance, fresh, good, calibrate_refusal, mean_refusal, distance_refusal, calibrated_of, standing}
use Rattle.fingerprint.specs.declared.Baseline.{Baseline}

-- the baseline after these frames, each given to `calibrate` in turn; a refused one leaves it
abbrev pub calibrated_by : Baseline → List Features → Baseline
calibrated_by b [] = b
calibrated_by b (f ∷ fs) = calibrated_by (standing b (calibrated_of b f)) fs

-- frames as the code holds them: a variance has 32 bits
abbrev pub Frames : List Features → Type 0
Frames [] = Unit {0}
Frames (f ∷ fs) = (f.variance ≤ max_variance) × Frames fs

-- from a new baseline, or any in range, every frame leads to one in range
abbrev pub NewIsGood : Type 0
NewIsGood = good fresh ≡ true

abbrev pub StaysGood : Type 0
StaysGood = (b : Baseline) (fs : List Features) → good b ≡ true → Frames fs → good (calibrated_by b fs) ≡ true

-- and no call on such a baseline refuses it as out of range, whatever features it is handed
abbrev pub NeverRefusedBy2 : Type 0
NeverRefusedBy2 = (fs : List Features) (f : Features) → Frames fs → let b = calibrated_by fresh fs in
    (calibrate_refusal b f ≡ 2 → ⊥) × (mean_refusal b ≡ 2 → ⊥) × (distance_refusal b f ≡ 2 → ⊥)
