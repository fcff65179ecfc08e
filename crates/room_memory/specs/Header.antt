-- The header of the unit's memory: the settings as they were given, the last accepted tag (0: none), the small states, then one number a column.
-- Behind it stand the four rings' rows (docs/LAYOUT.md). Assumes nothing.
use Rattle.std.specs.Prelude.{ℕ, ◌+◌, ◌-◌, ◌*◌, ◌<◌, Bool, ◌&&◌, List, ◌∷◌, ◌++◌, map, leb, get_or, drop}
use Rattle.num.specs.Words.{words_in, le_all}
use Rattle.num.specs.Wrap.{signed32, bits32}
use Rattle.window.specs.Window.{columns}
use Rattle.room_memory.specs.Fields.{detector_len, progress_len, baseline_len, fall_len, present_at, detector_in, detector_bytes, progress_in, progress_bytes, baseline_in, baseline_bytes, fall_in, fall_bytes}
use Rattle.presence.specs.declared.Sums.{Sums as Amplitudes}
use Rattle.phase_detector.specs.declared.Sums.{Sums as Angles}
use Rattle.room_memory.specs.declared.RoomState.{RoomState}

-- where each part stands: behind the one before it
abbrev pub settings_len : ℕ
settings_len = 118

abbrev pub tag_at : ℕ
tag_at = settings_len

abbrev pub presence_at : ℕ
presence_at = tag_at + 1

abbrev pub phase_at : ℕ
phase_at = presence_at + detector_len

abbrev pub breathing_at : ℕ
breathing_at = phase_at + detector_len

abbrev pub heart_at : ℕ
heart_at = breathing_at + progress_len

abbrev pub baseline_at : ℕ
baseline_at = heart_at + progress_len

abbrev pub fall_at : ℕ
fall_at = baseline_at + baseline_len

abbrev pub sum_at : ℕ
sum_at = fall_at + fall_len

abbrev pub sumsq_at : ℕ
sumsq_at = sum_at + 4 * columns

abbrev pub cos_at : ℕ
cos_at = sumsq_at + 8 * columns

abbrev pub sin_at : ℕ
sin_at = cos_at + 4 * columns

abbrev pub breathing_acc_at : ℕ
breathing_acc_at = sin_at + 4 * columns

abbrev pub heart_acc_at : ℕ
heart_acc_at = breathing_acc_at + 4 * columns

abbrev pub header_len : ℕ
header_len = heart_acc_at + 4 * columns

-- the header without the settings
abbrev pub state_len : ℕ
state_len = header_len - settings_len

-- what the header holds
unfoldable pub state_at : List ℕ → RoomState
state_at m =
    record {
      tag = get_or m tag_at 0;
      presence =
          record {
            state = detector_in m presence_at;
            sums = record { sum = words_in 4 columns (drop sum_at m); sumsq = words_in 8 columns (drop sumsq_at m) };
          };
      phase =
          record {
            state = detector_in m phase_at;
            sums = record { cos = map signed32 (words_in 4 columns (drop cos_at m)); sin = map signed32 (words_in 4 columns (drop sin_at m)) };
          };
      breathing = record { progress = progress_in m breathing_at; acc = words_in 4 columns (drop breathing_acc_at m) };
      heart = record { progress = progress_in m heart_at; acc = words_in 4 columns (drop heart_acc_at m) };
      baseline = baseline_in m baseline_at;
      fall = fall_in m fall_at;
    }

-- the small states as bytes
abbrev pub small_bytes : RoomState → List ℕ
small_bytes s =
    s.tag ∷ detector_bytes s.presence.state ++ (detector_bytes s.phase.state ++ (progress_bytes s.breathing.progress ++ (progress_bytes s.heart.progress
    ++ (baseline_bytes s.baseline ++ fall_bytes s.fall))))

-- the numbers of the columns as bytes
abbrev pub column_bytes : Amplitudes → Angles → (breathing heart : List ℕ) → List ℕ
column_bytes p q b h =
    le_all 4 p.sum ++ (le_all 8 p.sumsq ++ (le_all 4 (map bits32 q.cos) ++ (le_all 4 (map bits32 q.sin) ++ (le_all 4 b ++ le_all 4 h))))

-- the header behind the settings
unfoldable pub state_bytes : RoomState → List ℕ
state_bytes s = small_bytes s ++ column_bytes s.presence.sums s.phase.sums s.breathing.acc s.heart.acc

-- the numbers whose field in memory is narrower than their type fit it
pub record Small (s : RoomState) : Type 0 where
  pub presence-count : s.presence.state.count < 256
  pub presence-filled : s.presence.state.filled < 65536
  pub presence-next : s.presence.state.next < 65536
  pub phase-count : s.phase.state.count < 256
  pub phase-filled : s.phase.state.filled < 65536
  pub phase-next : s.phase.state.next < 65536
  pub breathing-count : s.breathing.progress.count < 256
  pub breathing-filled : s.breathing.progress.filled < 65536
  pub breathing-next : s.breathing.progress.next < 65536
  pub breathing-acc : s.breathing.progress.acc_n < 65536
  pub breathing-since : s.breathing.progress.since_update < 65536
  pub heart-count : s.heart.progress.count < 256
  pub heart-filled : s.heart.progress.filled < 65536
  pub heart-next : s.heart.progress.next < 65536
  pub heart-acc : s.heart.progress.acc_n < 65536
  pub heart-since : s.heart.progress.since_update < 65536
  pub baseline-frames : s.baseline.frames < 65536

-- the bytes of both `present` are 0 or 1: only then does storing what was loaded give the same bytes
unfoldable pub flags : List ℕ → Bool
flags m = leb (get_or m (presence_at + present_at) 0) 1 && leb (get_or m (phase_at + present_at) 0) 1
