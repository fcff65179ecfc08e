-- A state as a call gave it is taken by the next call, for every kind of detector. Assumes nothing.
use mathlib.Core.Path.{◌≡◌, refl}
use mathlib.Core.Bool.{Bool, true, false, cond}
use mathlib.Core.List.{List}
use Prim.Native.Nat.{ℕ, ◌*◌}
use native.Mathlib.Omega.{arith}
use lib.Dec.{leb, eqb}
use lib.ListN.{length}
use Rattle.detector.specs.State.{new_state}
use Rattle.detector.specs.Detector.{Kind, Valid, is_valid}
use Rattle.detector.specs.Calls.{is_window}
use Rattle.detector.specs.Words.{is_state, state_of, words_of}
use Rattle.detector.specs.Promises.{Taken, OwnTaken, TakenInWords, OwnTakenInWords}
use Rattle.detector.specs.declared.State.{State}
use Rattle.detector.specs.declared.Words.{Words}
use Rattle.detector.proofs.Calls.{valid-told}

-- a call that does not refuse has a window of a size that may be named
sized-by : (b : Bool) (n : ℕ) → 0 ≡ cond b n 1 → b ≡ true
sized-by true n z = refl
sized-by false n z = absurd (omega arith)

-- and what it gives is valid: then it is taken
valid-taken : (K : Kind) (w c : ℕ) (s : State) (bytes : List ℕ) (fs gs : List K.sums.Number) → is_window w ≡ true → Valid K w c s bytes fs gs → Taken K w c s bytes fs gs
valid-taken K w c s bytes fs gs e valid =
    let v : is_valid K w c s bytes fs gs ≡ true = (valid-told K w c s bytes fs gs).1 valid in
    record { reset = rw (e, v); push = λ count. rw (e, v) }

pub own-taken : (K : Kind) → OwnTaken K
own-taken K =
    record {
      new = λ w c bytes s' bytes' fs gs b.
          rw b.state (valid-taken K w c new_state bytes' fs gs (sized-by (is_window w) (cond (eqb (length bytes) (2 * (w * c))) 0 2) b.number) (b.begun refl).valid);
      reset = λ w c s bytes fs gs s' fs' gs' r.
          valid-taken K w c s' bytes fs' gs' (sized-by (is_window w) (cond (is_valid K w c s bytes fs gs) 0 2) r.number) (r.valid refl);
      push = λ lim w c s bytes fs gs new count now s' bytes' fs' gs' verdict r.
          valid-taken K w c s' bytes' fs' gs' (sized-by (is_window w) (cond (is_valid K w c s bytes fs gs) (cond (leb count c) 0 7) 2) r.number) (r.pushed refl).valid;
    }

-- IN NUMBERS

sized-in-words : (a b : Bool) (n : ℕ) → 0 ≡ cond a (cond b n 1) (cond b 2 1) → b ≡ true
sized-in-words a true n z = refl
sized-in-words true false n z = absurd (omega arith)
sized-in-words false false n z = absurd (omega arith)

in_words : (K : Kind) (w c : ℕ) (x : Words) (bytes : List ℕ) (fs gs : List K.sums.Number) → is_state x ≡ true → Taken K w c (state_of x) bytes fs gs → TakenInWords K w c x bytes fs gs
in_words K w c x bytes fs gs e t = record { reset = rw e t.reset; push = λ count. rw e (t.push count) }

pub own-taken-in-words : (K : Kind) → OwnTakenInWords K
own-taken-in-words K =
    record {
      new = λ w c bytes x' bytes' fs gs b.
          rw b.state (in_words K w c (words_of new_state) bytes' fs gs refl ((own-taken K).new w c bytes new_state bytes' fs gs b.begins));
      reset = λ w c x bytes fs gs x' fs' gs' r.
          in_words K w c x' bytes fs' gs' (r.words refl) ((own-taken K).reset w c (state_of x) bytes fs gs (state_of x') fs' gs' (r.resets refl));
      push = λ lim w c x bytes fs gs new count now x' bytes' fs' gs' tag motion r.
          let p = r.pushed refl in
          let e : is_window w ≡ true = sized-in-words (is_state x) (is_window w) (cond (is_valid K w c (state_of x) bytes fs gs) (cond (leb count c) 0 7) 2) r.number in
          in_words K w c x' bytes' fs' gs' p.words (valid-taken K w c (state_of x') bytes' fs' gs' e p.pushes.valid);
    }
