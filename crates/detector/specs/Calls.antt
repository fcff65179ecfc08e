-- The public calls of a detector over lent rows (docs/SPEC.md, "Who causes which refusal"): the refusal of each, by number and in the order
-- 1, 2, 7, and what every call answers. 0 is no refusal. Assumes nothing.
use Rattle.std.specs.Prelude.{◌≡◌, Bool, cond, ◌&&◌, List, ℕ, ◌*◌, length, replicate, leb, eqb, Result, Ok, Err}
use Rattle.refusal.specs.declared.Refusal.{Refusal}
use Rattle.window.specs.Window.{max_rows, ring_rows}
use Rattle.window.specs.Sums.{total_by}
use Rattle.detector.specs.State.{new_state, reset_state}
use Rattle.detector.specs.Detector.{Kind, Valid, is_valid, Pushes, detector_of, restart}
use Rattle.detector.specs.declared.Limits.{Limits}
use Rattle.detector.specs.declared.State.{State}
use Rattle.detector.specs.declared.Verdict.{Verdict}
use Rattle.detector.specs.declared.Verdict.TheVariants.{Warming}

-- W frames, 1 ≤ W ≤ 8,192
abbrev pub is_window : ℕ → Bool
is_window w = leb 1 w && leb w max_rows

abbrev pub window_check : ℕ → Result (Unit {0}) Refusal
window_check w = cond (is_window w) (Ok tt) (Err Refusal.Settings)

-- `new`: 1 for the window's size, 2 for the memory's length
abbrev pub new_refusal : (w c bytes : ℕ) → ℕ
new_refusal w c bytes = cond (is_window w) (cond (eqb bytes (2 * (w * c))) 0 2) 1

-- `reset`: 1, then 2 for a state, sums or memory that are not as a call leaves them
abbrev pub reset_refusal : (K : Kind) (w c : ℕ) → State → List ℕ → (fs gs : List K.sums.Number) → ℕ
reset_refusal K w c s bytes fs gs = cond (is_window w) (cond (is_valid K w c s bytes fs gs) 0 2) 1

-- `push`: the same, then 7 for a count above the columns
abbrev pub push_refusal : (K : Kind) (w c : ℕ) → State → List ℕ → (fs gs : List K.sums.Number) → (count : ℕ) → ℕ
push_refusal K w c s bytes fs gs count = cond (is_window w) (cond (is_valid K w c s bytes fs gs) (cond (leb count c) 0 7) 2) 1

-- c sums of w zeros: in a sum of cosines a zero is not nothing
abbrev pub zero_sums : {A : Type 0} (add : A → A → A) (none : A) (f : ℕ → A) → (w c : ℕ) → List A
zero_sums add none f w c = replicate c (total_by add none f (replicate w 0))

-- memory cleared for a new detector, with the sums of rows of zeros
pub record Clears (K : Kind) (w c : ℕ) (bytes bytes' : List ℕ) (fs gs : List K.sums.Number) : Type 0 where
  pub memory : bytes' ≡ replicate (length bytes) 0
  pub firsts : fs ≡ zero_sums K.sums.add K.sums.none K.sums.f w c
  pub seconds : gs ≡ zero_sums K.sums.add K.sums.none K.sums.g w c
  pub valid : Valid K w c new_state bytes' fs gs

-- `new`: a new state over cleared memory. Refused, the memory is as it was and the sums are 0
pub record Begins (K : Kind) (w c : ℕ) (bytes : List ℕ) (refusal : ℕ) (s' : State) (bytes' : List ℕ) (fs gs : List K.sums.Number) : Type 0 where
  pub number : refusal ≡ new_refusal w c (length bytes)
  pub state : s' ≡ new_state
  pub refused : (refusal ≡ 0 → ⊥) → (bytes' ≡ bytes) × (fs ≡ replicate c K.sums.none) × (gs ≡ replicate c K.sums.none)
  pub begun : refusal ≡ 0 → Clears K w c bytes bytes' fs gs

-- `reset`: the window is empty. The memory is only read and the sums stay: the rows that no window shows are free, and their sums match (`valid`)
pub record Resets (K : Kind) (w c : ℕ) (s : State) (bytes : List ℕ) (fs gs : List K.sums.Number) (refusal : ℕ) (s' : State) (fs' gs' : List K.sums.Number) : Type 0 where
  pub number : refusal ≡ reset_refusal K w c s bytes fs gs
  pub sums : (fs' ≡ fs) × (gs' ≡ gs)
  pub refused : (refusal ≡ 0 → ⊥) → s' ≡ s
  pub state : refusal ≡ 0 → s' ≡ reset_state s
  pub valid : refusal ≡ 0 → Valid K w c s' bytes fs' gs'
  pub detector : refusal ≡ 0 → detector_of s' (ring_rows w c bytes) ≡ restart (detector_of s (ring_rows w c bytes))

-- a refused push leaves all as it was
pub record Keeps (K : Kind) (s : State) (bytes : List ℕ) (fs gs : List K.sums.Number) (s' : State) (bytes' : List ℕ) (fs' gs' : List K.sums.Number) (verdict : Verdict) : Type 0 where
  pub state : s' ≡ s
  pub memory : bytes' ≡ bytes
  pub firsts : fs' ≡ fs
  pub seconds : gs' ≡ gs
  pub answer : verdict ≡ Warming

-- `push`: refused, or a push
pub record Calls (K : Kind) (lim : Limits) (w c : ℕ) (s : State) (bytes : List ℕ) (fs gs : List K.sums.Number) (new : List ℕ) (count now refusal : ℕ) (s' : State) (bytes' : List ℕ) (fs' gs' : List K.sums.Number) (verdict : Verdict) : Type 0 where
  pub number : refusal ≡ push_refusal K w c s bytes fs gs count
  pub refused : (refusal ≡ 0 → ⊥) → Keeps K s bytes fs gs s' bytes' fs' gs' verdict
  pub pushed : refusal ≡ 0 → Pushes K lim w c s bytes new count now s' bytes' fs' gs' verdict
