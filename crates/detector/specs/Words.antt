-- A state as numbers, as C has it, and the calls over it (presence_c and phase_detector_c): a byte stands for whether there is presence, and a
-- verdict is its number and its motion. Assumes nothing.
use Rattle.std.specs.Prelude.{◌≡◌, Bool, true, cond, List, ℕ, leb, eqb, Result, Ok, Err}
use Rattle.refusal.specs.declared.Refusal.{Refusal}
use Rattle.detector.specs.Verdict.{verdict_tag, motion_of}
use Rattle.detector.specs.State.{new_state}
use Rattle.detector.specs.Detector.{Kind, Pushes}
use Rattle.detector.specs.Calls.{is_window, reset_refusal, push_refusal, Begins, Resets}
use Rattle.detector.specs.declared.Limits.{Limits}
use Rattle.detector.specs.declared.State.{State}
use Rattle.detector.specs.declared.Verdict.{Verdict}
use Rattle.detector.specs.declared.Words.{Words}

-- numbers that are a state's: the byte is 0 or 1
abbrev pub is_state : Words → Bool
is_state x = leb x.present 1

-- the state that they are
abbrev pub state_of : Words → State
state_of x = record { count = x.count; filled = x.filled; next = x.next; wander = x.wander; present = eqb x.present 1; last_motion = x.last_motion }

-- and what they are taken as
abbrev pub state_for : Words → Result State Refusal
state_for x = cond (is_state x) (Ok (state_of x)) (Err Refusal.Memory)

-- the numbers of a state
abbrev pub words_of : State → Words
words_of s = record { count = s.count; filled = s.filled; next = s.next; wander = s.wander; present = cond s.present 1 0; last_motion = s.last_motion }

-- numbers that stand for no state are refused as memory, behind the window's size; those of a state as the state is
abbrev pub words_refusal : (w : ℕ) → Words → (refusal : ℕ) → ℕ
words_refusal w x refusal = cond (is_state x) refusal (cond (is_window w) 2 1)

-- `new`: the numbers of a new state
pub record BeginsInWords (K : Kind) (w c : ℕ) (bytes : List ℕ) (refusal : ℕ) (x' : Words) (bytes' : List ℕ) (fs gs : List K.sums.Number) : Type 0 where
  pub state : x' ≡ words_of new_state
  pub begins : Begins K w c bytes refusal new_state bytes' fs gs

-- `reset`: refused, all is as it was; else the numbers are those of the state that was reset
pub record ResetsInWords (K : Kind) (w c : ℕ) (x : Words) (bytes : List ℕ) (fs gs : List K.sums.Number) (refusal : ℕ) (x' : Words) (fs' gs' : List K.sums.Number) : Type 0 where
  pub number : refusal ≡ words_refusal w x (reset_refusal K w c (state_of x) bytes fs gs)
  pub sums : (fs' ≡ fs) × (gs' ≡ gs)
  pub refused : (refusal ≡ 0 → ⊥) → x' ≡ x
  pub words : refusal ≡ 0 → is_state x' ≡ true
  pub resets : refusal ≡ 0 → Resets K w c (state_of x) bytes fs gs 0 (state_of x') fs' gs'

-- a refused push leaves all as it was, and says Warming
pub record KeepsInWords (K : Kind) (x : Words) (bytes : List ℕ) (fs gs : List K.sums.Number) (x' : Words) (bytes' : List ℕ) (fs' gs' : List K.sums.Number) (tag motion : ℕ) : Type 0 where
  pub state : x' ≡ x
  pub memory : bytes' ≡ bytes
  pub firsts : fs' ≡ fs
  pub seconds : gs' ≡ gs
  pub answer : (tag ≡ 0) × (motion ≡ 0)

-- a push of the states, whose verdict has this number and this motion
pub record PushesInWords (K : Kind) (lim : Limits) (w c : ℕ) (x : Words) (bytes new : List ℕ) (count now : ℕ) (x' : Words) (bytes' : List ℕ) (fs' gs' : List K.sums.Number) (tag motion : ℕ) : Type 0 where
  pub verdict : Verdict
  pub words : is_state x' ≡ true
  pub pushes : Pushes K lim w c (state_of x) bytes new count now (state_of x') bytes' fs' gs' verdict
  pub number : tag ≡ verdict_tag verdict
  pub level : motion ≡ motion_of verdict

-- `push`: refused, or a push
pub record CallsInWords (K : Kind) (lim : Limits) (w c : ℕ) (x : Words) (bytes : List ℕ) (fs gs : List K.sums.Number) (new : List ℕ) (count now refusal : ℕ) (x' : Words) (bytes' : List ℕ) (fs' gs' : List K.sums.Number) (tag motion : ℕ) : Type 0 where
  pub number : refusal ≡ words_refusal w x (push_refusal K w c (state_of x) bytes fs gs count)
  pub refused : (refusal ≡ 0 → ⊥) → KeepsInWords K x bytes fs gs x' bytes' fs' gs' tag motion
  pub pushed : refusal ≡ 0 → PushesInWords K lim w c x bytes new count now x' bytes' fs' gs' tag motion
