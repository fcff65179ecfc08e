-- A state as numbers: they undo each other; and each way through a call over numbers meets its contract. Assumes nothing.
use mathlib.Core.Path.{◌≡◌, refl, sym, ap, subst, ◌∙◌}
use mathlib.Core.Bool.{Bool, true, false, cond}
use mathlib.Core.List.{List}
use Prim.Native.Nat.{ℕ}
use native.Mathlib.Omega.{arith}
use native.Mathlib.Decide.{ℕ_discrete}
use lib.Dec.{leb, eqb}
use borrow.Author.Tests.{leb-true, eq-eqb, ne_eqb}
use Rattle.detector.specs.Verdict.{verdict_tag, motion_of}
use Rattle.detector.specs.Detector.{Kind, Pushes}
use Rattle.detector.specs.Calls.{is_window, reset_refusal, push_refusal, Resets, Calls}
use Rattle.detector.specs.Words.{is_state, state_of, words_of, words_refusal, ResetsInWords, CallsInWords}
use Rattle.detector.specs.declared.Limits.{Limits}
use Rattle.detector.specs.declared.State.{State}
use Rattle.detector.specs.declared.Verdict.{Verdict}
use Rattle.detector.specs.declared.Words.{Words}

-- THE NUMBERS

flag-back : (b : Bool) → eqb (cond b 1 0) 1 ≡ b
flag-back true = refl
flag-back false = refl

flag_small : (b : Bool) → leb (cond b 1 0) 1 ≡ true
flag_small true = refl
flag_small false = refl

byte-back : (p : ℕ) → leb p 1 ≡ true → cond (eqb p 1) 1 0 ≡ p
byte-back p e = go (ℕ_discrete p 1)
  where
    go : Dec (p ≡ 1) → cond (eqb p 1) 1 0 ≡ p
    go (yes one) = rw (eq-eqb p 1 one) (sym one)
    go (no other) = rw (ne_eqb p 1 other) (omega (arith, leb-true p 1 e))

pub state-back : (s : State) → state_of (words_of s) ≡ s
state-back s =
    ap (λ (b : Bool). record { count = s.count; filled = s.filled; next = s.next; wander = s.wander; present = b; last_motion = s.last_motion }) (flag-back s.present)

pub state-words : (s : State) → is_state (words_of s) ≡ true
state-words s = flag_small s.present

pub words_back : (x : Words) → is_state x ≡ true → words_of (state_of x) ≡ x
words_back x e =
    ap (λ (p : ℕ). record { count = x.count; filled = x.filled; next = x.next; wander = x.wander; present = p; last_motion = x.last_motion }) (byte-back x.present e)

-- THE CALLS

module _ (w : ℕ) (x : Words) where
  number-of-state : is_state x ≡ true → (n : ℕ) → n ≡ words_refusal w x n
  number-of-state e n = ap (λ (b : Bool). cond b n (cond (is_window w) 2 1)) (sym e)

module _ (K : Kind) (w c : ℕ) (x : Words) (bytes : List ℕ) (fs gs : List K.sums.Number) where
  -- a state s, which a call takes and gives as s'
  module _ (e : is_state x ≡ true) (s : State) (es : s ≡ state_of x) (refusal : ℕ) (s' : State) (x' : Words) (ex : x' ≡ words_of s') where
    same : s' ≡ s → x' ≡ x
    same k = ex ∙ ap words_of (k ∙ es) ∙ words_back x e

    words : is_state x' ≡ true
    words = ap is_state ex ∙ state-words s'

    back : s' ≡ state_of x'
    back = sym (ap state_of ex ∙ state-back s')

    pub resets-in-words : (fs' gs' : List K.sums.Number) → Resets K w c s bytes fs gs refusal s' fs' gs' → ResetsInWords K w c x bytes fs gs refusal x' fs' gs'
    resets-in-words fs' gs' r =
        record {
          number = r.number ∙ ap (λ (t : State). reset_refusal K w c t bytes fs gs) es ∙ number-of-state w x e (reset_refusal K w c (state_of x) bytes fs gs);
          sums = r.sums;
          refused = λ n. same (r.refused n);
          words = λ z. words;
          resets = λ z.
              subst (λ (t : State). Resets K w c (state_of x) bytes fs gs 0 t fs' gs') back
              (subst (λ (t : State). Resets K w c t bytes fs gs 0 s' fs' gs') es (subst (λ (n : ℕ). Resets K w c s bytes fs gs n s' fs' gs') z r));
        }

    pub calls-in-words : (lim : Limits) (new : List ℕ) (count now : ℕ) (bytes' : List ℕ) (fs' gs' : List K.sums.Number) (verdict : Verdict) (tag motion : ℕ)
        → Calls K lim w c s bytes fs gs new count now refusal s' bytes' fs' gs' verdict → tag ≡ verdict_tag verdict → motion ≡ motion_of verdict
        → CallsInWords K lim w c x bytes fs gs new count now refusal x' bytes' fs' gs' tag motion
    calls-in-words lim new count now bytes' fs' gs' verdict tag motion r et em =
        record {
          number = r.number ∙ ap (λ (t : State). push_refusal K w c t bytes fs gs count) es ∙ number-of-state w x e (push_refusal K w c (state_of x) bytes fs gs count);
          refused = λ n.
              let k = r.refused n in
              record {
                state = same k.state;
                memory = k.memory;
                firsts = k.firsts;
                seconds = k.seconds;
                answer = (et ∙ ap verdict_tag k.answer, em ∙ ap motion_of k.answer);
              };
          pushed = λ z.
              record {
                verdict = verdict;
                words = words;
                pushes =
                    subst (λ (t : State). Pushes K lim w c (state_of x) bytes new count now t bytes' fs' gs' verdict) back
                    (subst (λ (t : State). Pushes K lim w c t bytes new count now s' bytes' fs' gs' verdict) es (r.pushed z));
                number = et;
                level = em;
              };
        }
