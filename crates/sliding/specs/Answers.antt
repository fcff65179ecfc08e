-- What stands where a call has answered: what its answer says, or where it is refused what stood there before; and the test that begins `reset` and
-- `push`. Assumes nothing.
use Rattle.std.specs.Prelude.{cond, List, ℕ, Result, Ok, Err}
use Rattle.refusal.specs.declared.Refusal.{Refusal}
use Rattle.detector.specs.Detector.{Kind, is_valid}
use Rattle.detector.specs.Calls.{is_window}
use Rattle.detector.specs.Words.{state_for}
use Rattle.detector.specs.declared.State.{State}
use Rattle.detector.specs.declared.Words.{Words}

abbrev pub after : {A B : Type 0} → (A → B) → (before : B) → Result A Refusal → B
after of before (Ok a) = of a
after of before (Err refusal) = before

-- the window's size, then a state, sums or memory that are not as a call leaves them
abbrev pub state_check : (K : Kind) (w c : ℕ) → State → List ℕ → (fs gs : List K.sums.Number) → Result (Unit {0}) Refusal
state_check K w c s bytes fs gs = cond (is_window w) (cond (is_valid K w c s bytes fs gs) (Ok tt) (Err Refusal.Memory)) (Err Refusal.Settings)

-- numbers that stand for no state are refused as memory, behind the window's size
abbrev pub words_check : (w : ℕ) → Words → Result State Refusal
words_check w x = cond (is_window w) (state_for x) (Err Refusal.Settings)
