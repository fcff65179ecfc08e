-- After a reset or a restart every later verdict is a new detector's: the time of the last motion, which is kept, shows in no answer while there
-- is no presence. And how a window grows. Assumes nothing.
use mathlib.Core.Path.{◌≡◌, refl, sym, ap, subst}
use mathlib.Core.Bool.{Bool, true, false, cond}
use mathlib.Core.List.{List, [], ◌∷◌, ◌++◌}
use Prim.Native.Nat.{ℕ, ◌+◌, ◌-◌, ◌≤◌, min}
use native.Mathlib.Omega.{arith}
use lib.ListN.{length, length-append, length-drop}
use lib.Dec.{leb, ltb, eqb}
use borrow.Author.Tests.{ne_eqb}
use Rattle.num.proofs.Logic.{never}
use Rattle.window.specs.Window.{push_row}
use Rattle.detector.specs.Decision.{present_after, last_after}
use Rattle.detector.specs.Detector.{Detector, new_detector, restart, changed, start_for, with_frame, judged, push_frame, verdict_of}
use Rattle.detector.specs.declared.Limits.{Limits}
use Rattle.detector.specs.declared.Verdict.{Verdict}

-- they differ at most in the time of the last motion, and only where there is no presence
pub record Alike (d e : Detector) : Type 0 where
  pub window : d.window ≡ e.window
  pub wander : d.wander ≡ e.wander
  pub present : d.present ≡ e.present
  pub last : d.present ≡ true → d.last ≡ e.last

module _ (wander_of : List (List ℕ) → ℕ) (lim : Limits) (w : ℕ) where
  at-motion : (now m : ℕ) (p : Bool) (l k : ℕ) → (p ≡ true → l ≡ k) → present_after lim now m p l ≡ present_after lim now m p k
  at-motion now m true l k e = ap (present_after lim now m true) (e refl)
  at-motion now m false l k e = go (leb lim.hold (now - l)) (leb lim.hold (now - k))
    where
      go : (a b : Bool) → cond (leb lim.on m) true (cond (leb m lim.off) (cond a false false) false) ≡ cond (leb lim.on m) true (cond (leb m lim.off) (cond b false false) false)
      go true true = refl
      go true false = refl
      go false true = refl
      go false false = refl

  -- where there is presence after a decision, it is since now or it was before
  last-known : (now m : ℕ) (p : Bool) (l k : ℕ) → (p ≡ true → l ≡ k) → present_after lim now m p l ≡ true → last_after lim now m l ≡ last_after lim now m k
  last-known now m true l k e h = ap (last_after lim now m) (e refl)
  last-known now m false l k e h = go (leb lim.on m) (leb m lim.off) (leb lim.hold (now - l)) h
    where
      go : (a b c : Bool) → cond a true (cond b (cond c false false) false) ≡ true → cond a now l ≡ cond a now k
      go true b c t = refl
      go false true true t = absurd (never t)
      go false true false t = absurd (never t)
      go false false c t = absurd (never t)

  judged-alike : (now : ℕ) (window : List (List ℕ)) (wander : ℕ) (p : Bool) (l k : ℕ) → (p ≡ true → l ≡ k)
      → Alike (judged wander_of lim w now (record { window = window; wander = wander; present = p; last = l })) (judged wander_of lim w now (record { window = window; wander = wander; present = p; last = k }))
  judged-alike now window wander p l k e = go (ltb (length window) w)
    where
      go : (full : Bool)
          → Alike (cond full (record { window = window; wander = wander; present = p; last = l }) (record { window = window; wander = wander_of window; present = present_after lim now (wander_of window) p l; last = last_after lim now (wander_of window) l }))
          (cond full (record { window = window; wander = wander; present = p; last = k }) (record { window = window; wander = wander_of window; present = present_after lim now (wander_of window) p k; last = last_after lim now (wander_of window) k }))
      go true = record { window = refl; wander = refl; present = refl; last = e }
      go false = record { window = refl; wander = refl; present = at-motion now (wander_of window) p l k e; last = last-known now (wander_of window) p l k e }

  fed-alike : (frame : List ℕ) (now : ℕ) (window : List (List ℕ)) (wander : ℕ) (p : Bool) (l k : ℕ) → (p ≡ true → l ≡ k)
      → Alike (push_frame wander_of lim w (record { window = window; wander = wander; present = p; last = l }) frame now) (push_frame wander_of lim w (record { window = window; wander = wander; present = p; last = k }) frame now)
  unfolding push_frame
  fed-alike frame now window wander p l k e = go (eqb (length frame) 0) (changed window frame)
    where
      go : (empty other : Bool)
          → Alike (cond empty (record { window = window; wander = wander; present = p; last = l }) (judged wander_of lim w now (with_frame w (cond other (record { window = []; wander = 0; present = false; last = l }) (record { window = window; wander = wander; present = p; last = l })) frame)))
          (cond empty (record { window = window; wander = wander; present = p; last = k }) (judged wander_of lim w now (with_frame w (cond other (record { window = []; wander = 0; present = false; last = k }) (record { window = window; wander = wander; present = p; last = k })) frame)))
      go true other = record { window = refl; wander = refl; present = refl; last = e }
      go false true = judged-alike now (push_row w [] frame) 0 false l k (λ t. absurd (never t))
      go false false = judged-alike now (push_row w window frame) wander p l k e

  same-but : (d e : Detector) → Alike d e → e ≡ record { window = d.window; wander = d.wander; present = d.present; last = e.last }
  same-but d e a = rw (a.window, a.wander, a.present)

  pub push-alike : (d e : Detector) → Alike d e → (frame : List ℕ) (now : ℕ) → Alike (push_frame wander_of lim w d frame now) (push_frame wander_of lim w e frame now)
  push-alike d e a frame now =
      subst (λ (x : Detector). Alike (push_frame wander_of lim w d frame now) (push_frame wander_of lim w x frame now)) (sym (same-but d e a))
      (fed-alike frame now d.window d.wander d.present d.last e.last a.last)

pub verdict-alike : (w unit : ℕ) (d e : Detector) → Alike d e → verdict_of w unit d ≡ verdict_of w unit e
unfolding verdict_of
verdict-alike w unit d e a = rw (a.window, a.wander, a.present)

-- the verdicts of a run of frames, each with its time
unfoldable pub watch : (List (List ℕ) → ℕ) → Limits → (w unit : ℕ) → Detector → List (List ℕ × ℕ) → List Verdict
watch wander_of lim w unit d [] = []
watch wander_of lim w unit d (f ∷ fs) =
    verdict_of w unit (push_frame wander_of lim w d f.0 f.1) ∷ watch wander_of lim w unit (push_frame wander_of lim w d f.0 f.1) fs

module _ (wander_of : List (List ℕ) → ℕ) (lim : Limits) (w unit : ℕ) where
  pub watch-alike : (d e : Detector) → Alike d e → (frames : List (List ℕ × ℕ)) → watch wander_of lim w unit d frames ≡ watch wander_of lim w unit e frames
  unfolding watch
  watch-alike d e a [] = refl
  watch-alike d e a (f ∷ fs) =
      let next : Alike (push_frame wander_of lim w d f.0 f.1) (push_frame wander_of lim w e f.0 f.1) = push-alike wander_of lim w d e a f.0 f.1 in
      cc (verdict-alike w unit (push_frame wander_of lim w d f.0 f.1) (push_frame wander_of lim w e f.0 f.1) next, watch-alike (push_frame wander_of lim w d f.0 f.1) (push_frame wander_of lim w e f.0 f.1) next fs)

  -- AFTER A RESET ALL VERDICTS ARE A NEW DETECTOR'S
  pub after-reset : (d : Detector) (frames : List (List ℕ × ℕ)) → watch wander_of lim w unit (restart d) frames ≡ watch wander_of lim w unit new_detector frames
  after-reset d frames = watch-alike (restart d) new_detector (record { window = refl; wander = refl; present = refl; last = λ t. absurd (never t) }) frames

-- A window grows by a frame that is not empty and not of another length, up to w
module _ (wander_of : List (List ℕ) → ℕ) (lim : Limits) (w : ℕ) where
  judged-window : (now : ℕ) (d : Detector) → (judged wander_of lim w now d).window ≡ d.window
  judged-window now d = go (ltb (length d.window) w)
    where
      go : (short : Bool)
          → (cond short d (record { window = d.window; wander = wander_of d.window; present = present_after lim now (wander_of d.window) d.present d.last; last = last_after lim now (wander_of d.window) d.last })).window
          ≡ d.window
      go true = refl
      go false = refl

  pub window-grows : (d : Detector) (frame : List ℕ) (now : ℕ) → (length frame ≡ 0 → ⊥) → changed d.window frame ≡ false → length d.window ≤ w
      → length (push_frame wander_of lim w d frame now).window ≡ min w (length d.window + 1)
  unfolding push_frame push_row
  window-grows d frame now some same most =
      rw (ne_eqb (length frame) 0 some, judged-window now (with_frame w (start_for d frame) frame), same)
      (rw (length-drop (length d.window + 1 - w) (d.window ++ (frame ∷ [])), length-append d.window (frame ∷ [])) (omega arith))
