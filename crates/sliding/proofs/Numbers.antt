-- The calls over a state as numbers: what the test before them lets pass, and what a refused push is. Assumes nothing.
use mathlib.Core.Path.{◌≡◌, refl}
use mathlib.Core.Bool.{Bool, true, false, cond}
use mathlib.Core.List.{List}
use Prim.Native.Nat.{ℕ}
use native.Mathlib.Omega.{arith}
use Rattle.std.specs.Prelude.{Result, Ok, Err}
use Rattle.refusal.specs.declared.Refusal.{Refusal}
use Rattle.refusal.specs.Refusal.{number}
use Rattle.detector.specs.Detector.{Kind}
use Rattle.detector.specs.Calls.{is_window, push_refusal}
use Rattle.detector.specs.Words.{is_state, state_of, words_refusal, CallsInWords}
use Rattle.detector.specs.declared.Limits.{Limits}
use Rattle.detector.specs.declared.State.{State}
use Rattle.detector.specs.declared.Words.{Words}
use Rattle.sliding.specs.Answers.{words_check}

pub record Read (w : ℕ) (x : Words) (s : State) : Type 0 where
  pub window : is_window w ≡ true
  pub words : is_state x ≡ true
  pub state : s ≡ state_of x

pub read : (w : ℕ) (x : Words) {s : State} → words_check w x ≡ Ok s → Read w x s
read w x {s} e = go (is_window w) (is_state x) refl refl e
  where
    go : (a b : Bool) → is_window w ≡ a → is_state x ≡ b → ◌≡◌ {A = Result State Refusal} (cond a (cond b (Ok (state_of x)) (Err Refusal.Memory)) (Err Refusal.Settings)) (Ok s) → Read w x s
    go true true ea eb k = record { window = ea; words = eb; state = cc }
    go true false ea eb k = cc
    go false b ea eb k = cc

-- numbers that are refused
module _ (K : Kind) (w c : ℕ) (x : Words) (bytes : List ℕ) (fs gs : List K.sums.Number) (lim : Limits) (new : List ℕ) (count now : ℕ) where
  stays : (n : ℕ) → (n ≡ 0 → ⊥) → n ≡ words_refusal w x (push_refusal K w c (state_of x) bytes fs gs count) → CallsInWords K lim w c x bytes fs gs new count now n x bytes fs gs 0 0
  stays n some e =
      record {
        number = e;
        refused = λ k. record { state = refl; memory = refl; firsts = refl; seconds = refl; answer = (refl, refl) };
        pushed = λ z. absurd (some z);
      }

  pub unread : {e : Refusal} → words_check w x ≡ Err e → CallsInWords K lim w c x bytes fs gs new count now (number e) x bytes fs gs 0 0
  unread {e} k = go (is_window w) (is_state x) refl refl k
    where
      go : (a b : Bool) → is_window w ≡ a → is_state x ≡ b → ◌≡◌ {A = Result State Refusal} (cond a (cond b (Ok (state_of x)) (Err Refusal.Memory)) (Err Refusal.Settings)) (Err e)
          → CallsInWords K lim w c x bytes fs gs new count now (number e) x bytes fs gs 0 0
      go true true ea eb k = cc
      go true false ea eb k = let is : e ≡ Refusal.Memory = cc in rw is (stays 2 (λ z. omega arith) (rw (eb, ea)))
      go false true ea eb k = let is : e ≡ Refusal.Settings = cc in rw is (stays 1 (λ z. omega arith) (rw (eb, ea)))
      go false false ea eb k = let is : e ≡ Refusal.Settings = cc in rw is (stays 1 (λ z. omega arith) (rw (eb, ea)))
