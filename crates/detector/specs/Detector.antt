-- A detector over a window of frames (csi.rs, phase.rs), and how a state and a ring in memory stand for it. A frame is the
-- list of its entries. What the wander of a full window is, `wander_of`, is each detector's own; all else is here once. Assumes nothing.
use Rattle.std.specs.Prelude.{◌≡◌, Bool, false, not, cond, ◌&&◌, List, [], ℕ, length, take, get_or, set, ltb, eqb}
use Rattle.window.specs.Window.{ring_rows, window_of, push_row, overwrite, width}
use Rattle.window.specs.Sums.{Summing, Ring, is_ring}
use Rattle.detector.specs.Decision.{present_after, last_after, verdict_at}
use Rattle.detector.specs.State.{Placed, is_placed, start_state, state_after}
use Rattle.detector.specs.declared.Limits.{Limits}
use Rattle.detector.specs.declared.State.{State}
use Rattle.detector.specs.declared.Verdict.{Verdict}

-- What a detector remembers: the frames since the last restart, at most w, oldest first; the last wander; the verdict; the time of the last motion
pub record Detector : Type 0 where
  pub window : List (List ℕ)
  pub wander : ℕ
  pub present : Bool
  pub last : ℕ

abbrev pub new_detector : Detector
new_detector = record { window = []; wander = 0; present = false; last = 0 }

-- a full window is judged by its wander
abbrev pub judged : (List (List ℕ) → ℕ) → Limits → (w now : ℕ) → Detector → Detector
judged wander_of lim w now d =
    cond (ltb (length d.window) w) d
    (record {
      window = d.window;
      wander = wander_of d.window;
      present = present_after lim now (wander_of d.window) d.present d.last;
      last = last_after lim now (wander_of d.window) d.last;
    })

-- a frame of another length restarts the window
abbrev pub changed : List (List ℕ) → List ℕ → Bool
changed window frame = cond (eqb (length window) 0) false (not (eqb (width window) (length frame)))

abbrev pub restart : Detector → Detector
restart d = record { window = []; wander = 0; present = false; last = d.last }

abbrev pub start_for : Detector → List ℕ → Detector
start_for d frame = cond (changed d.window frame) (restart d) d

abbrev pub with_frame : ℕ → Detector → List ℕ → Detector
with_frame w d frame = record { window = push_row w d.window frame; wander = d.wander; present = d.present; last = d.last }

-- one frame; an empty one changes nothing
unfoldable pub push_frame : (List (List ℕ) → ℕ) → Limits → (w : ℕ) → Detector → List ℕ → (now : ℕ) → Detector
push_frame wander_of lim w d frame now = cond (eqb (length frame) 0) d (judged wander_of lim w now (with_frame w (start_for d frame) frame))

unfoldable pub verdict_of : (w unit : ℕ) → Detector → Verdict
verdict_of w unit d = verdict_at w unit (length d.window) d.present d.wander

-- The detector that a state and a ring's rows stand for
unfoldable pub detector_of : State → List (List ℕ) → Detector
detector_of s rows =
    record { window = window_of s.next s.filled s.count rows; wander = s.wander; present = s.present; last = s.last_motion }

-- What a kind of detector has of its own: what it carries of each column, the wander of a full window, the largest wander there is, and
-- how much of it is one step of motion
pub record Kind : Type 1 where
  pub sums : Summing
  pub wander_of : List (List ℕ) → ℕ
  pub top : ℕ
  pub unit : ℕ

-- what holds of a state, its memory and its sums between calls; the same as a test
pub record Valid (K : Kind) (w c : ℕ) (s : State) (bytes : List ℕ) (fs gs : List K.sums.Number) : Type 0 where
  pub ring : Ring K.sums w c bytes fs gs
  pub placed : Placed w c K.top s

abbrev pub is_valid : (K : Kind) (w c : ℕ) → State → List ℕ → (fs gs : List K.sums.Number) → Bool
is_valid K w c s bytes fs gs = is_placed w c K.top s && is_ring K.sums w c bytes fs gs

-- the ring's rows after a push: a frame that is not empty is written at the slot
abbrev pub rows_after : List (List ℕ) → (slot : ℕ) → (new : List ℕ) → (count : ℕ) → List (List ℕ)
rows_after rows slot new count = cond (eqb count 0) rows (set rows slot (overwrite (get_or rows slot []) new count))

-- A push, whole: the state s and the bytes become s' and bytes' with the sums fs and gs, by a frame of the first `count` of `new` at the time
-- `now`. The rows fix the bytes (window, `rows-fixed`), and the ring its sums.
pub record Pushes (K : Kind) (lim : Limits) (w c : ℕ) (s : State) (bytes new : List ℕ) (count now : ℕ) (s' : State) (bytes' : List ℕ) (fs gs : List K.sums.Number) (verdict : Verdict) : Type 0 where
  pub valid : Valid K w c s' bytes' fs gs
  pub rows : ring_rows w c bytes' ≡ rows_after (ring_rows w c bytes) (start_state s count).next new count
  pub state : s' ≡ state_after lim w now (K.wander_of (window_of s'.next w count (ring_rows w c bytes'))) s count
  pub detector : detector_of s' (ring_rows w c bytes') ≡ push_frame K.wander_of lim w (detector_of s (ring_rows w c bytes)) (take count new) now
  pub answer : verdict ≡ verdict_of w K.unit (detector_of s' (ring_rows w c bytes'))
