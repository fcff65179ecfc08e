-- What the test before a call lets pass, and what a refused one means. Assumes nothing.
use mathlib.Core.Path.{◌≡◌, refl}
use mathlib.Core.Bool.{Bool, true, false, cond}
use mathlib.Core.List.{List}
use Prim.Native.Nat.{ℕ}
use Rattle.std.specs.Prelude.{Result, Ok, Err}
use Rattle.refusal.specs.declared.Refusal.{Refusal}
use Rattle.refusal.specs.Refusal.{number}
use Rattle.detector.specs.Detector.{Kind, Valid, is_valid}
use Rattle.detector.specs.Calls.{is_window, Calls}
use Rattle.detector.specs.declared.Limits.{Limits}
use Rattle.detector.specs.declared.State.{State}
use Rattle.detector.specs.declared.Verdict.TheVariants.{Warming}
use Rattle.detector.proofs.Calls.{valid-told, call-window, call-invalid}
use Rattle.sliding.specs.Answers.{state_check}

module _ (K : Kind) (w c : ℕ) (s : State) (bytes : List ℕ) (fs gs : List K.sums.Number) where
  pub record Passed : Type 0 where
    pub window : is_window w ≡ true
    pub is-valid : is_valid K w c s bytes fs gs ≡ true
    pub valid : Valid K w c s bytes fs gs

  passes : (a b : Bool) → is_window w ≡ a → is_valid K w c s bytes fs gs ≡ b → {u : Unit {0}} → cond a (cond b (Ok tt) (Err Refusal.Memory)) (Err Refusal.Settings) ≡ Ok u → Passed
  passes true true ea eb e = record { window = ea; is-valid = eb; valid = (valid-told K w c s bytes fs gs).0 eb }
  passes true false ea eb e = cc
  passes false b ea eb e = cc

  pub passed : {u : Unit {0}} → state_check K w c s bytes fs gs ≡ Ok u → Passed
  passed e = passes (is_window w) (is_valid K w c s bytes fs gs) refl refl e

  -- a push that the test refuses
  module _ (lim : Limits) (new : List ℕ) (count now : ℕ) where
    refuses : (a b : Bool) → is_window w ≡ a → is_valid K w c s bytes fs gs ≡ b → {r : Refusal}
        → ◌≡◌ {A = Result (Unit {0}) Refusal} (cond a (cond b (Ok tt) (Err Refusal.Memory)) (Err Refusal.Settings)) (Err r) → Calls K lim w c s bytes fs gs new count now (number r) s bytes fs gs Warming
    refuses true true ea eb e = cc
    refuses true false ea eb {r} e = let is : r ≡ Refusal.Memory = cc in rw is (call-invalid K w c s bytes fs gs lim new count now ea eb)
    refuses false b ea eb {r} e = let is : r ≡ Refusal.Settings = cc in rw is (call-window K w c s bytes fs gs lim new count now ea)

    pub refused : {e : Refusal} → state_check K w c s bytes fs gs ≡ Err e → Calls K lim w c s bytes fs gs new count now (number e) s bytes fs gs Warming
    refused e = refuses (is_window w) (is_valid K w c s bytes fs gs) refl refl e
