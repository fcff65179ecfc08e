-- The state beside a ring, its range, and its steps (csi.rs and phase.rs, the fields of the detectors and `reset`, `push`). Assumes nothing.
use Rattle.std.specs.Prelude.{Bool, false, not, cond, ◌&&◌, ℕ, ◌≤◌, ◌<◌, leb, ltb, eqb}
use Rattle.window.specs.Window.{next_slot, filled_after}
use Rattle.detector.specs.Decision.{present_after, last_after}
use Rattle.detector.specs.declared.Limits.{Limits}
use Rattle.detector.specs.declared.State.{State}

-- a new detector's
abbrev pub new_state : State
new_state = record { count = 0; filled = 0; next = 0; wander = 0; present = false; last_motion = 0 }

-- `reset`: as new, but for the time of the last motion, which no answer shows before the next motion (proofs/Reset.antt)
abbrev pub reset_state : State → State
reset_state s = record { count = 0; filled = 0; next = 0; wander = 0; present = false; last_motion = s.last_motion }

-- in range, over w rows of c entries, where no wander is above `top`
pub record Placed (w c top : ℕ) (s : State) : Type 0 where
  pub slot : s.next < w
  pub most : s.filled ≤ w
  pub narrow : s.count ≤ c
  pub calm : s.wander ≤ top

abbrev pub is_placed : (w c top : ℕ) → State → Bool
is_placed w c top s = ltb s.next w && (leb s.filled w && (leb s.count c && leb s.wander top))

-- The steps of a push. A changed count restarts
abbrev pub kept_state : State → ℕ → State
kept_state s n = record { count = n; filled = s.filled; next = s.next; wander = s.wander; present = s.present; last_motion = s.last_motion }

abbrev pub restarted_state : State → ℕ → State
restarted_state s n = record { count = n; filled = 0; next = 0; wander = 0; present = false; last_motion = s.last_motion }

abbrev pub count_changed : State → ℕ → Bool
count_changed s n = cond (eqb s.filled 0) false (not (eqb s.count n))

abbrev pub start_state : State → ℕ → State
start_state s n = cond (count_changed s n) (restarted_state s n) (kept_state s n)

-- a row is written
abbrev pub next_state : ℕ → State → State
next_state w s =
    record { count = s.count; filled = filled_after w s.filled; next = next_slot w s.next; wander = s.wander; present = s.present; last_motion = s.last_motion }

-- a full window is judged at the wander m
abbrev pub judged_state : Limits → (now m : ℕ) → State → State
judged_state lim now m s =
    record {
      count = s.count;
      filled = s.filled;
      next = s.next;
      wander = m;
      present = present_after lim now m s.present s.last_motion;
      last_motion = last_after lim now m s.last_motion;
    }

abbrev pub settled_state : Limits → (w now m : ℕ) → State → State
settled_state lim w now m s = cond (ltb s.filled w) s (judged_state lim now m s)

-- the state after a frame of n entries; m is the wander of the window where it is then full. An empty frame changes nothing
abbrev pub state_after : Limits → (w now m : ℕ) → State → (n : ℕ) → State
state_after lim w now m s n = cond (eqb n 0) s (settled_state lim w now m (next_state w (start_state s n)))
