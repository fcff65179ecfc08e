-- A state as a call gave it, with its own window, memory and sums, is taken by the next: it is not refused as memory (docs/SPEC.md, "Who causes which refusal"). Assumes nothing.
use Rattle.std.specs.Prelude.{◌≡◌, cond, List, ℕ, leb}
use Rattle.detector.specs.Detector.{Kind}
use Rattle.detector.specs.Calls.{reset_refusal, push_refusal, Begins, Resets, Calls}
use Rattle.detector.specs.Words.{state_of, words_refusal, BeginsInWords, ResetsInWords, CallsInWords}
use Rattle.detector.specs.declared.Limits.{Limits}
use Rattle.detector.specs.declared.State.{State}
use Rattle.detector.specs.declared.Verdict.{Verdict}
use Rattle.detector.specs.declared.Words.{Words}

-- `reset` does not refuse it, and `push` only a frame, by its count
pub record Taken (K : Kind) (w c : ℕ) (s : State) (bytes : List ℕ) (fs gs : List K.sums.Number) : Type 0 where
  pub reset : reset_refusal K w c s bytes fs gs ≡ 0
  pub push : (count : ℕ) → push_refusal K w c s bytes fs gs count ≡ cond (leb count c) 0 7

-- what each call gives where it does not refuse
pub record OwnTaken (K : Kind) : Type 0 where
  pub new : (w c : ℕ) (bytes : List ℕ) (s' : State) (bytes' : List ℕ) (fs gs : List K.sums.Number)
      → Begins K w c bytes 0 s' bytes' fs gs → Taken K w c s' bytes' fs gs
  pub reset : (w c : ℕ) (s : State) (bytes : List ℕ) (fs gs : List K.sums.Number) (s' : State) (fs' gs' : List K.sums.Number)
      → Resets K w c s bytes fs gs 0 s' fs' gs' → Taken K w c s' bytes fs' gs'
  pub push : (lim : Limits) (w c : ℕ) (s : State) (bytes : List ℕ) (fs gs : List K.sums.Number) (new : List ℕ) (count now : ℕ) (s' : State) (bytes' : List ℕ) (fs' gs' : List K.sums.Number) (verdict : Verdict)
      → Calls K lim w c s bytes fs gs new count now 0 s' bytes' fs' gs' verdict → Taken K w c s' bytes' fs' gs'

-- the same of a state as numbers
pub record TakenInWords (K : Kind) (w c : ℕ) (x : Words) (bytes : List ℕ) (fs gs : List K.sums.Number) : Type 0 where
  pub reset : words_refusal w x (reset_refusal K w c (state_of x) bytes fs gs) ≡ 0
  pub push : (count : ℕ) → words_refusal w x (push_refusal K w c (state_of x) bytes fs gs count) ≡ cond (leb count c) 0 7

pub record OwnTakenInWords (K : Kind) : Type 0 where
  pub new : (w c : ℕ) (bytes : List ℕ) (x' : Words) (bytes' : List ℕ) (fs gs : List K.sums.Number)
      → BeginsInWords K w c bytes 0 x' bytes' fs gs → TakenInWords K w c x' bytes' fs gs
  pub reset : (w c : ℕ) (x : Words) (bytes : List ℕ) (fs gs : List K.sums.Number) (x' : Words) (fs' gs' : List K.sums.Number)
      → ResetsInWords K w c x bytes fs gs 0 x' fs' gs' → TakenInWords K w c x' bytes fs' gs'
  pub push : (lim : Limits) (w c : ℕ) (x : Words) (bytes : List ℕ) (fs gs : List K.sums.Number) (new : List ℕ) (count now : ℕ) (x' : Words) (bytes' : List ℕ) (fs' gs' : List K.sums.Number) (tag motion : ℕ)
      → CallsInWords K lim w c x bytes fs gs new count now 0 x' bytes' fs' gs' tag motion → TakenInWords K w c x' bytes' fs' gs'
