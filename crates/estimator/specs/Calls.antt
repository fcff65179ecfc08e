-- What the public calls answer on every input: `new`, `push` and `reset` of vitals.rs with their refusals. Assumes nothing.
use Rattle.std.specs.Prelude.{◌≡◌, Bool, cond, ◌&&◌, List, ℕ, eqb, leb, length, take, replicate, Option, Result, Ok, Err, IfOk}
use Rattle.refusal.specs.Refusal.{answered_number}
use Rattle.refusal.specs.declared.Refusal.{Refusal}
use Rattle.refusal.specs.declared.Refusal.TheVariants.{Settings, Memory}
use Rattle.window.specs.Window.{columns}
use Rattle.vitals.specs.declared.config.VitalsConfig.{VitalsConfig}
use Rattle.estimator.specs.State.{legal, in_range, ring_length, restarted_at, Took}
use Rattle.estimator.specs.declared.Vitals.{Vitals}
use Rattle.estimator.specs.declared.VitalsEstimator.{VitalsEstimator}

-- a new estimator
abbrev pub new_state : VitalsEstimator
new_state = record { progress = restarted_at 0; acc = replicate columns 0 }

-- settings in range, memory of the right length, and a state in range
abbrev pub fits : ℕ → List ℕ → Bool
fits n bytes = eqb (length bytes) (ring_length n)

abbrev pub valid : VitalsConfig → ℕ → VitalsEstimator → List ℕ → Bool
valid cfg n s bytes = fits n bytes && in_range cfg n s.progress s.acc

-- the refusal of each call, 0 for none: 1 settings, 2 memory and state, 7 more columns than a row has
abbrev pub new_refusal : VitalsConfig → ℕ → List ℕ → ℕ
new_refusal cfg n bytes = cond (legal cfg n) (cond (fits n bytes) 0 2) 1

abbrev pub reset_refusal : VitalsConfig → ℕ → VitalsEstimator → List ℕ → ℕ
reset_refusal cfg n s bytes = cond (legal cfg n) (cond (valid cfg n s bytes) 0 2) 1

abbrev pub push_refusal : VitalsConfig → ℕ → VitalsEstimator → List ℕ → (count : ℕ) → ℕ
push_refusal cfg n s bytes count = cond (eqb (reset_refusal cfg n s bytes) 0) (cond (leb count columns) 0 7) (reset_refusal cfg n s bytes)

-- what is tested in turn: the settings and the memory, then the state
abbrev pub ring_check : VitalsConfig → ℕ → List ℕ → Result Unit Refusal
ring_check cfg n bytes = cond (legal cfg n) (cond (fits n bytes) (Ok tt) (Err Memory)) (Err Settings)

abbrev pub state_check : VitalsConfig → ℕ → VitalsEstimator → List ℕ → Result Unit Refusal
state_check cfg n s bytes = cond (legal cfg n) (cond (valid cfg n s bytes) (Ok tt) (Err Memory)) (Err Settings)

-- `new` and `reset` answer a new state. The rows are only read
abbrev pub new_answer : VitalsConfig → ℕ → List ℕ → Result VitalsEstimator Refusal
new_answer cfg n bytes = cond (legal cfg n) (cond (fits n bytes) (Ok new_state) (Err Memory)) (Err Settings)

abbrev pub reset_answer : VitalsConfig → ℕ → VitalsEstimator → List ℕ → Result VitalsEstimator Refusal
reset_answer cfg n s bytes = cond (legal cfg n) (cond (valid cfg n s bytes) (Ok new_state) (Err Memory)) (Err Settings)

-- `push`: its number; refused, the state and the rows are as they were; else what a frame taken makes
pub record Tried (cfg : VitalsConfig) (n time : ℕ) (s : VitalsEstimator) (bytes amplitude : List ℕ) (count : ℕ) (r : Result (Option Vitals) Refusal) (s' : VitalsEstimator) (bytes' : List ℕ) : Type 0 where
  pub refusal : answered_number r ≡ push_refusal cfg n s bytes count
  pub refused : (push_refusal cfg n s bytes count ≡ 0 → ⊥) → (s' ≡ s) × (bytes' ≡ bytes)
  pub taken : IfOk r (λ answer. Took cfg n time s bytes (take count amplitude) answer s' bytes')
