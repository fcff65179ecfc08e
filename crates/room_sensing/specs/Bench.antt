-- The bench cases that docs/SPEC.md marks with a star, one row each: what the definitions give, and what is due. `proofs/Bench.antt` proves them in one go.
-- Assumes nothing.
use Rattle.std.specs.Prelude.{List, [], ◌∷◌, map, ℕ, ℤ, pos, negsuc, get_or, take, replicate}
use Rattle.csi.specs.Features.{amplitude_at, describe, normalised_of}
use Rattle.csi.specs.declared.Features.{Features}
use Rattle.fingerprint.specs.Baseline as fingerprint
use Rattle.detector.specs.Detector.{Kind, new_detector, push_frame}
use Rattle.detector.specs.declared.Limits.{Limits}
use Rattle.presence.specs.Presence.{presence_kind}
use Rattle.phase.specs.Angle.{angle_of}
use Rattle.phase_detector.specs.Phase.{phase_kind, entries}
use Rattle.vitals.specs.Band.{lags_of, breathing_at, heart_at}
use Rattle.vitals.specs.declared.band.Lags.{Lags}

pub record Row : Type 0 where
  pub given : List ℤ
  pub due : List ℤ

abbrev signed : (given due : List ℤ) → Row
signed g d = record { given = g; due = d }

abbrev row : (given due : List ℕ) → Row
row g d = signed (map pos g) (map pos d)

-- the features of these amplitudes, normalised
abbrev normalised : List ℕ → Features
normalised xs = normalised_of (describe xs)

-- the wander of a window of two frames, as the detector tells it; its limits do not matter
abbrev limits : Limits
limits = record { on = 0; off = 0; hold = 0 }

abbrev wander_of_two : Kind → (first second : List ℕ) → ℕ
wander_of_two K a b = (push_frame K.wander_of limits 2 (push_frame K.wander_of limits 2 new_detector a 0) b 0).wander

abbrev lags_in : Lags → List ℕ
lags_in l = l.lo ∷ l.hi ∷ []

abbrev pub bench : List Row
bench =
    -- im 3, re 4: amplitude 20
    row (amplitude_at (3 ∷ 4 ∷ []) 0 ∷ []) (20 ∷ [])
    -- −128, −128: 724
    ∷ row (amplitude_at (128 ∷ 128 ∷ []) 0 ∷ []) (724 ∷ [])
    -- angle (0, 0): 0
    ∷ signed (angle_of (pos 0) (pos 0) ∷ []) (pos 0 ∷ [])
    -- y 0, x −1: −32,768
    ∷ signed (angle_of (pos 0) (negsuc 0) ∷ []) (negsuc 32767 ∷ [])
    -- y −1, x −64: −32,605
    ∷ signed (angle_of (negsuc 0) (negsuc 63) ∷ []) (negsuc 32604 ∷ [])
    -- 10, 20, 30, 40 normalised, with mean and variance
    ∷ row (take 4 (normalised (10 ∷ 20 ∷ 30 ∷ 40 ∷ [])).amplitude) (409 ∷ 819 ∷ 1228 ∷ 1638 ∷ [])
    ∷ row ((normalised (10 ∷ 20 ∷ 30 ∷ 40 ∷ [])).mean ∷ (normalised (10 ∷ 20 ∷ 30 ∷ 40 ∷ [])).variance ∷ []) (1023 ∷ 209715 ∷ [])
    -- one non-zero of 64
    ∷ row (get_or (normalised (7 ∷ replicate 63 0)).amplitude 0 0 ∷ []) (65535 ∷ [])
    -- W 2, 1000 and 1010: wander 4
    ∷ row (wander_of_two presence_kind (1000 ∷ []) (1010 ∷ []) ∷ []) (4 ∷ [])
    -- angles 0 and −32,768: 1,000,000 ppm
    ∷ row (wander_of_two phase_kind (entries (pos 0 ∷ [])) (entries (negsuc 32767 ∷ [])) ∷ []) (1000000 ∷ [])
    -- lags of breathing at 10 Hz, and of the heart at 25 Hz
    ∷ row (lags_in (lags_of (breathing_at 50).band 10)) (18 ∷ 67 ∷ [])
    ∷ row (lags_in (lags_of (heart_at 50).band 25)) (11 ∷ 36 ∷ [])
    -- variances 100, 101, then 150: distance 500
    ∷ row (fingerprint.distance_from (fingerprint.mean_of (fingerprint.fed (fingerprint.fed fingerprint.fresh 100) 101)) 150 ∷ []) (500 ∷ [])
    ∷ []
