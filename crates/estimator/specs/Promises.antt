-- A state as a call gave it is never refused as memory, with its own settings and memory; a new one remembers nothing. Assumes nothing.
use Rattle.std.specs.Prelude.{◌≡◌, List, ℕ, ◌≤◌, Option, Result, Ok, Err, IsOkAnd}
use Rattle.refusal.specs.declared.Refusal.{Refusal}
use Rattle.window.specs.Window.{columns}
use Rattle.vitals.specs.declared.config.VitalsConfig.{VitalsConfig}
use Rattle.estimator.specs.Estimator.{restarted}
use Rattle.estimator.specs.State.{rhythm_at}
use Rattle.estimator.specs.Calls.{new_state, new_refusal, reset_refusal, push_refusal, new_answer, reset_answer, Tried}
use Rattle.estimator.specs.declared.Vitals.{Vitals}
use Rattle.estimator.specs.declared.VitalsEstimator.{VitalsEstimator}

-- neither `reset` nor a frame of at most 64 columns is refused
pub record Taken (cfg : VitalsConfig) (n : ℕ) (s : VitalsEstimator) (bytes : List ℕ) : Type 0 where
  pub reset : reset_refusal cfg n s bytes ≡ 0
  pub push : (count : ℕ) → count ≤ columns → push_refusal cfg n s bytes count ≡ 0

-- the state that the caller has then: the answer's, or where there is none the one that was handed in
abbrev pub kept : VitalsEstimator → Result VitalsEstimator Refusal → VitalsEstimator
kept s (Ok t) = t
kept s (Err e) = s

pub record NeverRefused : Type 0 where
  pub new : (cfg : VitalsConfig) (n : ℕ) (bytes : List ℕ) → new_refusal cfg n bytes ≡ 0 → IsOkAnd (new_answer cfg n bytes) (λ s. Taken cfg n s bytes)
  pub reset : (cfg : VitalsConfig) (n : ℕ) (s : VitalsEstimator) (bytes : List ℕ) → Taken cfg n s bytes → Taken cfg n (kept s (reset_answer cfg n s bytes)) bytes
  pub push : (cfg : VitalsConfig) (n time : ℕ) (s : VitalsEstimator) (bytes amplitude : List ℕ) (count : ℕ) (r : Result (Option Vitals) Refusal) (s' : VitalsEstimator) (bytes' : List ℕ)
      → Taken cfg n s bytes → Tried cfg n time s bytes amplitude count r s' bytes' → Taken cfg n s' bytes'

-- whatever the rows hold
abbrev pub NewIsBlank : Type 0
NewIsBlank = (rows : List (List ℕ)) → rhythm_at new_state.progress new_state.acc rows ≡ restarted 0
