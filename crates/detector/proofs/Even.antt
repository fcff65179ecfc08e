-- A detector that is fed frames of one length never restarts: its window fills by one row a frame, up to w, and it says Warming until it is full.
-- Assumes nothing.
use mathlib.Core.Path.{◌≡◌, refl, ap, ◌∙◌}
use mathlib.Core.Bool.{Bool, true, false, cond, not}
use mathlib.Core.List.{List}
use Prim.Native.Nat.{ℕ, ◌+◌, ◌≤◌, ◌<◌, min}
use native.Mathlib.Omega.{arith}
use borrow.Author.Tests.{eq-eqb, ne_eqb, eqb-false}
use lib.Dec.{eqb, ltb}
use lib.ListN.{length}
use Rattle.window.specs.Window.{push_row, width, Long}
use Rattle.window.proofs.Pushed.{length_push, long-push}
use Rattle.detector.specs.Decision.{present_after, last_after}
use Rattle.detector.specs.Detector.{Detector, new_detector, judged, changed, restart, start_for, with_frame, push_frame}
use Rattle.detector.specs.declared.Limits.{Limits}

-- at most w rows, each of n entries
pub record Even (w n : ℕ) (d : Detector) : Type 0 where
  pub few : length d.window ≤ w
  pub long : Long n d.window

pub even-new : (w n : ℕ) → Even w n new_detector
even-new w n = record { few = omega arith; long = λ i h. absurd (omega arith) }

-- what a window is after a frame that is not empty
pub judged-window : (wander_of : List (List ℕ) → ℕ) (lim : Limits) (w now : ℕ) (x : Detector) → (judged wander_of lim w now x).window ≡ x.window
judged-window wander_of lim w now x =
    let m = wander_of x.window in
    go (ltb (length x.window) w) m (present_after lim now m x.present x.last) (last_after lim now m x.last)
  where
    go : (b : Bool) (m : ℕ) (p : Bool) (l : ℕ) → (cond b x (record { window = x.window; wander = m; present = p; last = l })).window ≡ x.window
    go true m p l = refl
    go false m p l = refl

pub pushed-window : (wander_of : List (List ℕ) → ℕ) (lim : Limits) (w : ℕ) (d : Detector) (frame : List ℕ) (now : ℕ) → 1 ≤ length frame
    → (push_frame wander_of lim w d frame now).window ≡ push_row w (start_for d frame).window frame
unfolding push_frame
pushed-window wander_of lim w d frame now some =
    rw (ne_eqb (length frame) 0 (λ z. omega arith)) (judged-window wander_of lim w now (with_frame w (start_for d frame) frame))

module _ (wander_of : List (List ℕ) → ℕ) (lim : Limits) (w n : ℕ) (d : Detector) (frame : List ℕ) (now : ℕ) where
  unchanged : Long n d.window → length frame ≡ n → changed d.window frame ≡ false
  unchanged long e = go (eqb (length d.window) 0) refl
    where
      go : (b : Bool) → eqb (length d.window) 0 ≡ b → cond b false (not (eqb (width d.window) (length frame))) ≡ false
      go true h = refl
      go false h =
          let some : 0 < length d.window = omega (arith, eqb-false (length d.window) 0 h) in
          rw (eq-eqb (width d.window) (length frame) (long 0 some ∙ (omega arith)))

  -- a frame as long as the window's rows finds them
  pub kept-window : Long n d.window → length frame ≡ n → (start_for d frame).window ≡ d.window
  kept-window long e = ap (λ (b : Bool). (cond b (restart d) d).window) (unchanged long e)

  long-window : Long n d.window → 1 ≤ n → length frame ≡ n → (push_frame wander_of lim w d frame now).window ≡ push_row w d.window frame
  long-window long some e =
      pushed-window wander_of lim w d frame now (omega arith) ∙ ap (λ (rows : List (List ℕ)). push_row w rows frame) (kept-window long e)

  pub even-pushed : Even w n d → 1 ≤ n → length frame ≡ n → Even w n (push_frame wander_of lim w d frame now)
  even-pushed v some e =
      record {
        few = rw (long-window v.long some e) (omega (arith, length_push w d.window frame v.few));
        long = rw (long-window v.long some e) (long-push w d.window frame n v.long e);
      }

  pub even-filled : Even w n d → 1 ≤ n → length frame ≡ n
      → length (push_frame wander_of lim w d frame now).window ≡ min w (length d.window + 1)
  even-filled v some e = rw (long-window v.long some e) (length_push w d.window frame v.few)
