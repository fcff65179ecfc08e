-- The small states in memory: which bytes hold which number, low byte first (docs/LAYOUT.md). Assumes nothing.
use Rattle.std.specs.Prelude.{ℕ, ◌+◌, ◌%◌, Bool, cond, List, ◌∷◌, ◌++◌, eqb, length, get_or, take, drop}
use Rattle.num.specs.Words.{le_at, le_bytes}
use Rattle.detector.specs.declared.State.{State}
use Rattle.estimator.specs.declared.Progress.{Progress}
use Rattle.fingerprint.specs.declared.Baseline.{Baseline}
use Rattle.fall_words.specs.declared.Words.{Words}

-- the bytes of t from a on, over what stood there
abbrev pub pasted_at : List ℕ → ℕ → List ℕ → List ℕ
pasted_at m a t = take a m ++ (t ++ drop (a + length t) m)

-- ---- presence and phase: count, filled, next, wander, present (0 or 1), last motion
abbrev pub detector_len : ℕ
detector_len = 18

abbrev pub flag : Bool → ℕ
flag b = cond b 1 0

-- where `present` stands
abbrev pub present_at : ℕ
present_at = 9

abbrev pub detector_bytes : State → List ℕ
detector_bytes s =
    (s.count % 256)
    ∷ le_bytes 2 s.filled ++ (le_bytes 2 s.next ++ (le_bytes 4 s.wander ++ (flag s.present ∷ le_bytes 8 s.last_motion)))

abbrev pub detector_in : List ℕ → ℕ → State
detector_in m a =
    record {
      count = get_or m a 0;
      filled = le_at m (a + 1) 2;
      next = le_at m (a + 3) 2;
      wander = le_at m (a + 5) 4;
      present = eqb (get_or m (a + present_at) 0) 1;
      last_motion = le_at m (a + 10) 8;
    }

-- ---- breathing and heart without the open block's totals: count, filled, next, frames in the open block, blocks since the last estimate
abbrev pub progress_len : ℕ
progress_len = 9

abbrev pub progress_bytes : Progress → List ℕ
progress_bytes s =
    (s.count % 256) ∷ le_bytes 2 s.filled ++ (le_bytes 2 s.next ++ (le_bytes 2 s.acc_n ++ le_bytes 2 s.since_update))

abbrev pub progress_in : List ℕ → ℕ → Progress
progress_in m a =
    record {
      count = get_or m a 0;
      filled = le_at m (a + 1) 2;
      next = le_at m (a + 3) 2;
      acc_n = le_at m (a + 5) 2;
      since_update = le_at m (a + 7) 2;
    }

-- ---- the baseline: sum, frames
abbrev pub baseline_len : ℕ
baseline_len = 10

abbrev pub baseline_bytes : Baseline → List ℕ
baseline_bytes b = le_bytes 8 b.sum ++ le_bytes 2 b.frames

abbrev pub baseline_in : List ℕ → ℕ → Baseline
baseline_in m a = record { sum = le_at m a 8; frames = le_at m (a + 8) 2 }

-- ---- the fall machine: tag, peak, two times
abbrev pub fall_len : ℕ
fall_len = 19

abbrev pub fall_bytes : Words → List ℕ
fall_bytes w = w.tag ∷ le_bytes 2 w.peak ++ (le_bytes 8 w.a ++ le_bytes 8 w.b)

abbrev pub fall_in : List ℕ → ℕ → Words
fall_in m a = record { tag = get_or m a 0; peak = le_at m (a + 1) 2; a = le_at m (a + 3) 8; b = le_at m (a + 11) 8 }
