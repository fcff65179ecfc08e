-- A window has no order: a detector tells the wander of its last w frames, whatever it saw before, and that does not depend on their order.
-- Assumes nothing.
use mathlib.Core.Path.{◌≡◌, refl, sym, ap, ◌∙◌}
use mathlib.Core.Bool.{Bool, true, false, cond, not}
use mathlib.Core.List.{List, [], ◌∷◌, ◌++◌, append_assoc}
use Prim.Native.Nat.{ℕ, suc, ◌≤◌}
use native.Mathlib.Omega.{arith}
use borrow.Author.Tests.{eqb-true, ne_eqb, ltb-true}
use lib.Dec.{eqb, ltb}
use lib.ListN.{length, length-map}
use Rattle.window.specs.Window.{push_row, last_of, width, Long, ring_rows, window_of}
use Rattle.window.specs.Order.{HasNoOrder}
use Rattle.window.proofs.Pushed.{long-push, push-last, last-of-last, last-behind, last-full}
use Rattle.window.proofs.View.{window-long}
use Rattle.window.proofs.Mean.{ring_long}
use Rattle.window.proofs.Order.{length-reordered, long-reordered}
use Rattle.detector.specs.Decision.{present_after, last_after}
use Rattle.detector.specs.Detector.{Kind, Detector, new_detector, Valid, judged, start_for, with_frame, restart, push_frame, detector_of}
use Rattle.detector.specs.Order.{Push, frames_of, push_all, Level, TellTheSame, AllPushed, no_more, and_then, NoOrder}
use Rattle.detector.specs.declared.Limits.{Limits}
use Rattle.detector.specs.declared.State.{State}
use Rattle.detector.proofs.Even.{judged-window, pushed-window, kept-window}

frames-many : (ps : List Push) → length (frames_of ps) ≡ length ps
frames-many ps = length-map ps (λ (p : Push). p.frame)

-- rows of n entries are as long as the first
long-level : (n : ℕ) (rows : List (List ℕ)) → Long n rows → Long (width rows) rows
long-level n rows long i h = long i h ∙ sym (long 0 (omega arith))

module _ (wander_of : List (List ℕ) → ℕ) (w : ℕ) where
  -- ---- a full window is told by its wander

  abbrev Told : Detector → Type 0
  Told d = length d.window ≡ w → d.wander ≡ wander_of d.window

  told-judged : (lim : Limits) (now : ℕ) (d : Detector) → Told (judged wander_of lim w now d)
  told-judged lim now d = go (ltb (length d.window) w) refl (present_after lim now (wander_of d.window) d.present d.last) (last_after lim now (wander_of d.window) d.last)
    where
      go : (b : Bool) → ltb (length d.window) w ≡ b → (p : Bool) (l : ℕ)
          → Told (cond b d (record { window = d.window; wander = wander_of d.window; present = p; last = l }))
      go true e p l full = absurd (omega (arith, ltb-true (length d.window) w e))
      go false e p l full = refl

  told-pushed : (d : Detector) (p : Push) → 1 ≤ length p.frame → Told (push_frame wander_of p.lim w d p.frame p.now)
  unfolding push_frame
  told-pushed d p some = rw (ne_eqb (length p.frame) 0 (λ z. omega arith)) (told-judged p.lim p.now (with_frame w (start_for d p.frame) p.frame))

  -- ---- the frames of a window after pushes

  -- a frame starts a window of its own length, whatever the detector saw before
  start-long : (n : ℕ) (d : Detector) (frame : List ℕ) → Level d → length frame ≡ n → Long n (start_for d frame).window
  start-long n d frame level e = go (eqb (length d.window) 0) (eqb (width d.window) (length frame)) refl refl
    where
      go : (a b : Bool) → eqb (length d.window) 0 ≡ a → eqb (width d.window) (length frame) ≡ b → Long n (cond (cond a false (not b)) (restart d) d).window
      go true b h k i l = absurd (omega (arith, eqb-true (length d.window) 0 h))
      go false true h k i l = level i l ∙ eqb-true (width d.window) (length frame) k ∙ e
      go false false h k i l = absurd (omega arith)

  stays-level : (lim : Limits) (d : Detector) (frame : List ℕ) (now : ℕ) → Level d → Level (push_frame wander_of lim w d frame now)
  unfolding push_frame
  stays-level lim d frame now level = go (eqb (length frame) 0) refl
    where
      go : (b : Bool) → eqb (length frame) 0 ≡ b → Level (cond b d (judged wander_of lim w now (with_frame w (start_for d frame) frame)))
      go true e = level
      go false e =
          let start : List (List ℕ) = (start_for d frame).window in
          rw (judged-window wander_of lim w now (with_frame w (start_for d frame) frame))
          (long-level (length frame) (push_row w start frame) (long-push w start frame (length frame) (start-long (length frame) d frame level refl) refl))

  -- the window is the last w of the rows that the first frame finds and of all frames
  all-window : (n : ℕ) (d : Detector) (p : Push) (ps : List Push) → Level d → 1 ≤ n → Long n (frames_of (p ∷ ps))
      → (push_all wander_of w d (p ∷ ps)).window ≡ last_of w ((start_for d p.frame).window ++ frames_of (p ∷ ps))
  unfolding push_all
  all-window n d p [] level some long =
      pushed-window wander_of p.lim w d p.frame p.now (omega (arith, long 0 (omega arith))) ∙ push-last w (start_for d p.frame).window p.frame
  all-window n d p (q ∷ ps) level some long =
      let e : length p.frame ≡ n = long 0 (omega arith) in
      let d' : Detector = push_frame wander_of p.lim w d p.frame p.now in
      let start : List (List ℕ) = (start_for d p.frame).window in
      let window : d'.window ≡ push_row w start p.frame = pushed-window wander_of p.lim w d p.frame p.now (omega arith) in
      let rows : Long n d'.window = rw window (long-push w start p.frame n (start-long n d p.frame level e) e) in
      let kept : (start_for d' q.frame).window ≡ d'.window = kept-window wander_of q.lim w n d' q.frame q.now rows (long 1 (omega arith)) in
      all-window n d' q ps (long-level n d'.window rows) some (λ i h. long (suc i) (omega arith))
      ∙ rw (kept, window, push-last w start p.frame, last-of-last w (start ++ (p.frame ∷ [])) (frames_of (q ∷ ps)), append_assoc start (p.frame ∷ []) (frames_of (q ∷ ps)))

  all_told : (n : ℕ) (d : Detector) (ps : List Push) → Told d → 1 ≤ n → Long n (frames_of ps) → Told (push_all wander_of w d ps)
  unfolding push_all
  all_told n d [] t some long = t
  all_told n d (p ∷ ps) t some long =
      all_told n (push_frame wander_of p.lim w d p.frame p.now) ps (told-pushed d p (omega (arith, long 0 (omega arith)))) some (λ i h. long (suc i) (omega arith))

  -- where these are w rows, their wander is told
  tells : (n : ℕ) (d : Detector) (p : Push) (ps : List Push) (rows : List (List ℕ)) → Level d → 1 ≤ n → Long n (frames_of (p ∷ ps))
      → last_of w ((start_for d p.frame).window ++ frames_of (p ∷ ps)) ≡ rows → length rows ≡ w → (push_all wander_of w d (p ∷ ps)).wander ≡ wander_of rows
  unfolding push_all
  tells n d p ps rows level some long e full =
      let window : (push_all wander_of w d (p ∷ ps)).window ≡ rows = all-window n d p ps level some long ∙ e in
      all_told n (push_frame wander_of p.lim w d p.frame p.now) ps (told-pushed d p (omega (arith, long 0 (omega arith)))) some (λ i h. long (suc i) (omega arith)) (ap length window ∙ full)
      ∙ ap wander_of window

  tells-the-last : (n : ℕ) (d : Detector) (ps : List Push) → 1 ≤ w → Level d → 1 ≤ n → length ps ≡ w → Long n (frames_of ps)
      → (push_all wander_of w d ps).wander ≡ wander_of (frames_of ps)
  tells-the-last n d [] one level some full long = absurd (omega arith)
  tells-the-last n d (p ∷ ps) one level some full long =
      let many : length (frames_of (p ∷ ps)) ≡ w = frames-many (p ∷ ps) ∙ full in
      tells n d p ps (frames_of (p ∷ ps)) level some long (last-behind w (start_for d p.frame).window (frames_of (p ∷ ps)) many) many

  -- a new one tells that of the last w of all frames
  pub tells-the-last-of-all : (n : ℕ) (ps : List Push) → 1 ≤ w → 1 ≤ n → w ≤ length ps → Long n (frames_of ps)
      → (push_all wander_of w new_detector ps).wander ≡ wander_of (last_of w (frames_of ps))
  tells-the-last-of-all n [] one some enough long = absurd (omega arith)
  tells-the-last-of-all n (p ∷ ps) one some enough long =
      tells n new_detector p ps (last_of w (frames_of (p ∷ ps))) (λ i h. absurd (omega arith)) some long refl (last-full w (frames_of (p ∷ ps)) (omega (arith, frames-many (p ∷ ps))))

-- ---- no order

tell-the-same : (wander_of : List (List ℕ) → ℕ) → HasNoOrder wander_of → TellTheSame wander_of
tell-the-same wander_of no-order w n d e ps qs one of-d of-e same =
    let fs : List (List ℕ) = frames_of ps in
    let gs : List (List ℕ) = frames_of qs in
    let full : length qs ≡ w =
    sym (frames-many qs) ∙ sym (length-reordered fs gs same.reordered) ∙ frames-many ps ∙ same.full in
    tells-the-last wander_of w n d ps one of-d same.some same.full same.long
    ∙ no-order n fs gs same.long same.reordered
    ∙ sym (tells-the-last wander_of w n e qs one of-e same.some full (long-reordered n fs gs same.reordered same.long))

module _ (K : Kind) (w c : ℕ) where
  -- the frames of the window that a valid state stands for are as long as its count
  valid-level : (s : State) (bytes : List ℕ) (fs gs : List K.sums.Number) → Valid K w c s bytes fs gs → Level (detector_of s (ring_rows w c bytes))
  unfolding detector_of
  valid-level s bytes fs gs v =
      long-level s.count (window_of s.next s.filled s.count (ring_rows w c bytes))
      (window-long s.next s.filled s.count c (ring_rows w c bytes) (ring_long w c bytes v.ring.whole) v.placed.narrow)

  -- calls push on the detector that their state stands for
  as-pushed : {ps : List Push} {s s' : State} {bytes bytes' : List ℕ} → AllPushed K w c ps s bytes s' bytes'
      → s'.wander ≡ (push_all K.wander_of w (detector_of s (ring_rows w c bytes)) ps).wander
  unfolding detector_of push_all
  as-pushed no_more = refl
  as-pushed {ps = p ∷ ps} (and_then new count fs gs verdict e pushes rest) =
      as-pushed rest ∙ ap (λ (d : Detector). (push_all K.wander_of w d ps).wander) (rw e pushes.detector)

pub no-order-by : (K : Kind) → HasNoOrder K.wander_of → NoOrder K
no-order-by K no-order =
    record {
      level = record {
        new = λ i h. absurd (omega arith);
        pushed = λ lim w d frame now. stays-level K.wander_of w lim d frame now;
        reset = λ d i h. absurd (omega arith);
      };
      windows = no-order;
      last-frames = λ w n d ps. tells-the-last K.wander_of w n d ps;
      detectors = tell-the-same K.wander_of no-order;
      calls = λ w c n ps qs s s' t t' bytes bytes' other other' fs gs hs ks v all x also same.
          as-pushed K w c all
          ∙ tell-the-same K.wander_of no-order w n (detector_of s (ring_rows w c bytes)) (detector_of t (ring_rows w c other)) ps qs (omega (arith, v.placed.slot))
          (valid-level K w c s bytes fs gs v) (valid-level K w c t other hs ks x) same
          ∙ sym (as-pushed K w c also);
    }
