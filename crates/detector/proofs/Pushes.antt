-- Each step of the state and its ring is the step of the detector that they stand for; and a push, whole, for every kind of sums and every
-- wander. Assumes nothing.
use mathlib.Core.Path.{◌≡◌, refl, sym, ap, ◌∙◌}
use mathlib.Core.Bool.{Bool, true, false, not, cond}
use mathlib.Core.List.{List, []}
use Prim.Native.Nat.{ℕ, ◌+◌, ◌≤◌, ◌<◌}
use native.Mathlib.Nat.{mod-lt}
use native.Mathlib.Decide.{ℕ_discrete, dec_lt}
use native.Mathlib.Omega.{arith}
use lib.ListN.{length, take, drop, get_or, set}
use lib.Seq.{length-take-le, take_at}
use lib.Dec.{eqb, ltb}
use borrow.Author.Tests.{lt-ltb, le-ltb, eq-eqb, ne_eqb}
use Rattle.window.specs.Window.{max_rows, ring_rows, push_row, window_of, overwrite, next_slot, filled_after, width, Long}
use Rattle.window.specs.Sums.{Ring}
use Rattle.window.specs.Words.{words}
use Rattle.window.proofs.Rows.{length_cut}
use Rattle.window.proofs.View.{window-push, window-none, window-width, length-window}
use Rattle.window.proofs.Mean.{ring_long}
use Rattle.detector.specs.Decision.{present_after, last_after, verdict_at}
use Rattle.detector.specs.State.{Placed, kept_state, restarted_state, count_changed, start_state, next_state, judged_state, settled_state}
use Rattle.detector.specs.Detector.{Detector, Kind, detector_of, start_for, restart, changed, with_frame, judged, verdict_of, Valid, Pushes, push_frame}
use Rattle.detector.specs.declared.Limits.{Limits}
use Rattle.detector.specs.declared.State.{State}
use Rattle.detector.specs.declared.Verdict.{Verdict}

module _ (w : ℕ) (rows : List (List ℕ)) (rows_long : length rows ≡ w) (c : ℕ) (long : Long c rows) (s : State) (most : s.filled ≤ w) (narrow : s.count ≤ c) (frame : List ℕ) (n : ℕ) (frame-long : length frame ≡ n) where
  seen : List (List ℕ)
  seen = window_of s.next s.filled s.count rows

  seen-long : length seen ≡ s.filled
  unfolding seen
  seen-long = length-window s.next s.filled s.count rows (omega arith)

  seen-width : 0 < s.filled → width seen ≡ s.count
  unfolding seen
  seen-width h = window-width s.next s.filled s.count c rows long narrow h (omega arith)

  changed-is : changed seen frame ≡ count_changed s n
  changed-is = rw seen-long (go (ℕ_discrete s.filled 0))
    where
      go : Dec (s.filled ≡ 0) → cond (eqb s.filled 0) false (not (eqb (width seen) (length frame))) ≡ cond (eqb s.filled 0) false (not (eqb s.count n))
      go (yes e) = rw (eq-eqb s.filled 0 e)
      go (no f) = rw (seen-width (omega arith), frame-long)

  -- an unchanged count, or no window: the same window
  same-window : count_changed s n ≡ false → window_of s.next s.filled n rows ≡ seen
  unfolding seen
  same-window o = go (ℕ_discrete s.filled 0) (ℕ_discrete s.count n)
    where
      go : Dec (s.filled ≡ 0) → Dec (s.count ≡ n) → window_of s.next s.filled n rows ≡ window_of s.next s.filled s.count rows
      go (yes e) d = rw e (window-none s.next n rows ∙ sym (window-none s.next s.count rows))
      go (no f) (yes e) = ap (λ (k : ℕ). window_of s.next s.filled k rows) (sym e)
      go (no f) (no g) = let z : ◌≡◌ {A = ℕ} 0 1 = cc (rw (ne_eqb s.filled 0 f, ne_eqb s.count n g) at o) in absurd (omega arith)

  pub start-law : detector_of (start_state s n) rows ≡ start_for (detector_of s rows) frame
  unfolding detector_of seen
  start-law = go (count_changed s n) refl ∙ ap (λ (b : Bool). cond b (restart (detector_of s rows)) (detector_of s rows)) (sym changed-is)
    where
      go : (b : Bool) → count_changed s n ≡ b → detector_of (cond b (restarted_state s n) (kept_state s n)) rows ≡ cond b (restart (detector_of s rows)) (detector_of s rows)
      go true o = ap (λ (l : List (List ℕ)). record { window = l; wander = 0; present = false; last = s.last_motion }) (window-none 0 n rows)
      go false o = ap (λ (l : List (List ℕ)). record { window = l; wander = s.wander; present = s.present; last = s.last_motion }) (same-window o)

-- what holds of both holds of the one that is picked
picked : {A : Type 0} (P : A → Type 0) (b : Bool) (x y : A) → P x → P y → P (cond b x y)
picked P true x y px py = px
picked P false x y px py = py

-- the state that a frame of n entries starts from
pub record Started (w c top n : ℕ) (s : State) : Type 0 where
  pub placed : Placed w c top s
  pub count-is : s.count ≡ n

pub started : (w c top n : ℕ) (s : State) → Placed w c top s → n ≤ c → Started w c top n (start_state s n)
started w c top n s p narrow =
    picked (λ (t : State). Started w c top n t) (count_changed s n) (restarted_state s n) (kept_state s n)
    (record { placed = record { slot = omega (arith, p.slot); most = omega arith; narrow = narrow; calm = omega arith }; count-is = refl })
    (record { placed = record { slot = p.slot; most = p.most; narrow = narrow; calm = p.calm }; count-is = refl })

-- what the steps of a push of n entries ask of the sizes, and of the state that it starts from
pub record Begun (w c n : ℕ) (start : State) : Type 0 where
  pub some-rows : 1 ≤ w
  pub few-rows : w ≤ max_rows
  pub some-entries : 1 ≤ n
  pub few-entries : n ≤ c
  pub slot : start.next < w
  pub most : start.filled ≤ w

pub begun : {K : Kind} {w c n : ℕ} {s start : State} {bytes : List ℕ} {fs gs : List K.sums.Number} → Valid K w c s bytes fs gs → n ≤ c → (n ≡ 0 → ⊥) → start ≡ start_state s n → Begun w c n start
begun {K} {w} {c} {n} {s} valid narrow some e =
    let from : Started w c K.top n (start_state s n) = started w c K.top n s valid.placed narrow in
    rw e
    (record {
      some-rows = omega (arith, valid.placed.slot);
      few-rows = valid.ring.small;
      some-entries = omega (arith, some);
      few-entries = narrow;
      slot = from.placed.slot;
      most = from.placed.most;
    })

-- a frame's entries at the front of a row
pub frame_at : (row new : List ℕ) (n : ℕ) → n ≤ length new → take n (overwrite row new n) ≡ take n new
frame_at row new n h = take_at (take n new) (drop n row) n (length-take-le n new h)

-- a row written at the next slot
pub next-law : (w c top n : ℕ) (rows : List (List ℕ)) (s : State) (row : List ℕ) → length rows ≡ w → Started w c top n s
    → detector_of (next_state w s) (set rows s.next row) ≡ with_frame w (detector_of s rows) (take n row)
unfolding detector_of
next-law w c top n rows s row rows_long started =
    ap (λ (l : List (List ℕ)). record { window = l; wander = s.wander; present = s.present; last = s.last_motion })
    (window-push w s.next s.filled s.count rows row started.placed.slot started.placed.most rows_long
    ∙ ap (λ (k : ℕ). push_row w (window_of s.next s.filled s.count rows) (take k row)) started.count-is)

-- a full window is judged at its wander m
pub settle-law : (wander_of : List (List ℕ) → ℕ) (lim : Limits) (w now m : ℕ) (rows : List (List ℕ)) (s : State) → length rows ≡ w → s.filled ≤ w
    → (s.filled ≡ w → m ≡ wander_of (window_of s.next s.filled s.count rows))
    → detector_of (settled_state lim w now m s) rows ≡ judged wander_of lim w now (detector_of s rows)
unfolding detector_of
settle-law wander_of lim w now m rows s rows_long most m-is = go (dec_lt s.filled w)
  where
    seen : List (List ℕ)
    seen = window_of s.next s.filled s.count rows

    judged_at : ℕ → Detector
    judged_at k = record { window = seen; wander = k; present = present_after lim now k s.present s.last_motion; last = last_after lim now k s.last_motion }

    seen-long : length seen ≡ s.filled
    seen-long = length-window s.next s.filled s.count rows (omega arith)

    go : Dec (s.filled < w) → detector_of (settled_state lim w now m s) rows ≡ judged wander_of lim w now (detector_of s rows)
    go (yes h) = rw (seen-long, lt-ltb s.filled w h)
    go (no f) = rw (seen-long, le-ltb s.filled w (omega arith)) (ap judged_at (m-is (omega arith)))

-- the verdict of the state is that of the detector
pub verdict-law : (w unit : ℕ) (rows : List (List ℕ)) (s : State) → length rows ≡ w → s.filled ≤ w
    → verdict_at w unit s.filled s.present s.wander ≡ verdict_of w unit (detector_of s rows)
unfolding verdict_of detector_of
verdict-law w unit rows s rows_long most = rw (length-window s.next s.filled s.count rows (omega arith))

-- A PUSH, WHOLE
module _ (K : Kind) (lim : Limits) (w c n time : ℕ) (s : State) (bytes new : List ℕ) (fs gs : List K.sums.Number) (valid : Valid K w c s bytes fs gs) where
  -- an empty frame
  pub push-none : (verdict : Verdict) → n ≡ 0 → verdict ≡ verdict_at w K.unit s.filled s.present s.wander → Pushes K lim w c s bytes new n time s bytes fs gs verdict
  unfolding push_frame
  push-none verdict e v =
      record {
        valid = valid;
        rows = rw e;
        state = rw e;
        detector = rw e;
        answer = v ∙ verdict-law w K.unit (ring_rows w c bytes) s (length_cut w c (words bytes)) valid.placed.most;
      }

  -- a row is replaced, and the wander of the carried sums is that of the window
  module _ (narrow : n ≤ c) (some : n ≡ 0 → ⊥) (new-long : length new ≡ c)
      (bytes' : List ℕ) (fs' gs' : List K.sums.Number) (ring : Ring K.sums w c bytes' fs' gs')
      (written : ring_rows w c bytes' ≡ set (ring_rows w c bytes) (start_state s n).next (overwrite (get_or (ring_rows w c bytes) (start_state s n).next []) new n))
      (m : ℕ) (m-le : m ≤ K.top) (m-is : (next : ℕ) → m ≡ K.wander_of (window_of next w n (ring_rows w c bytes')))
    where
      after : State
      after = settled_state lim w time m (next_state w (start_state s n))

      from : Started w c K.top n (start_state s n)
      from = started w c K.top n s valid.placed narrow

      placed-after : Placed w c K.top after
      unfolding after
      placed-after =
          let next : next_slot w (start_state s n).next < w = mod-lt ((start_state s n).next + 1) (omega (arith, valid.placed.slot)) in
          let at : (t : State) → t.next ≡ next_slot w (start_state s n).next → t.filled ≡ filled_after w (start_state s n).filled → t.count ≡ (start_state s n).count → t.wander ≤ K.top → Placed w c K.top t =
          λ t e f g h. record { slot = rw e next; most = omega arith; narrow = omega (arith, from.count-is); calm = h } in
          picked (λ (t : State). Placed w c K.top t) (ltb (next_state w (start_state s n)).filled w) (next_state w (start_state s n)) (judged_state lim time m (next_state w (start_state s n)))
          (at (next_state w (start_state s n)) refl refl refl from.placed.calm) (at (judged_state lim time m (next_state w (start_state s n))) refl refl refl m-le)

      detector-after : detector_of after (ring_rows w c bytes') ≡ push_frame K.wander_of lim w (detector_of s (ring_rows w c bytes)) (take n new) time
      unfolding push_frame after
      detector-after =
          let rows : List (List ℕ) = ring_rows w c bytes in
          let rows' : List (List ℕ) = ring_rows w c bytes' in
          let start : State = start_state s n in
          let fed : State = next_state w start in
          let row : List ℕ = overwrite (get_or rows start.next []) new n in
          let frame : List ℕ = take n new in
          let frame-long : length frame ≡ n = length-take-le n new (omega arith) in
          let rows_long : length rows ≡ w = length_cut w c (words bytes) in
          let rows-long' : length rows' ≡ w = length_cut w c (words bytes') in
          let full : fed.filled ≡ w → m ≡ K.wander_of (window_of fed.next fed.filled fed.count rows') =
          λ e. rw (e, from.count-is) (m-is fed.next) in
          let settle : detector_of after rows' ≡ judged K.wander_of lim w time (detector_of fed rows') =
          settle-law K.wander_of lim w time m rows' fed rows-long' (omega arith) full in
          let written-frame : detector_of fed rows' ≡ with_frame w (detector_of start rows) (take n row) =
          ap (detector_of fed) written ∙ next-law w c K.top n rows start row rows_long from in
          let begun : detector_of start rows ≡ start_for (detector_of s rows) frame =
          start-law w rows rows_long c (ring_long w c bytes valid.ring.whole) s valid.placed.most valid.placed.narrow frame n frame-long in
          let body : Detector = judged K.wander_of lim w time (with_frame w (start_for (detector_of s rows) frame) frame) in
          let same : with_frame w (detector_of start rows) (take n row) ≡ with_frame w (start_for (detector_of s rows) frame) frame =
          ap (with_frame w (detector_of start rows)) (frame_at (get_or rows start.next []) new n (omega arith)) ∙ ap (λ (d : Detector). with_frame w d frame) begun in
          let not-empty : eqb (length frame) 0 ≡ false = ne_eqb (length frame) 0 (λ e. some (sym frame-long ∙ e)) in
          settle ∙ ap (judged K.wander_of lim w time) (written-frame ∙ same) ∙ sym (ap (λ (b : Bool). cond b (detector_of s rows) body) not-empty)

      settled : (s' : State) (verdict : Verdict) → s' ≡ settled_state lim w time m (next_state w (start_state s n)) → verdict ≡ verdict_at w K.unit s'.filled s'.present s'.wander
          → Pushes K lim w c s bytes new n time s' bytes' fs' gs' verdict
      unfolding after
      settled s' verdict e v =
          let p : Placed w c K.top s' = rw e placed-after in
          record {
            valid = record { ring = ring; placed = p };
            rows = written ∙ rw (ne_eqb n 0 some);
            state = rw (ne_eqb n 0 some, ← m-is s'.next) e;
            detector = rw e detector-after;
            answer = v ∙ verdict-law w K.unit (ring_rows w c bytes') s' (length_cut w c (words bytes')) p.most;
          }

  -- any other, by what each step of it ensures: the limits, the state at the start, the row replaced, the next state, the wander, the settled state
  pub push-some : n ≤ c → (n ≡ 0 → ⊥) → length new ≡ c → {l : Limits} → l ≡ lim → {start : State} → start ≡ start_state s n
      → {bytes' : List ℕ} {fs' gs' : List K.sums.Number} → Ring K.sums w c bytes' fs' gs'
      → ring_rows w c bytes' ≡ set (ring_rows w c bytes) start.next (overwrite (get_or (ring_rows w c bytes) start.next []) new n)
      → {fed : State} → fed ≡ next_state w start → (m : ℕ) → m ≤ K.top → ((next : ℕ) → m ≡ K.wander_of (window_of next w n (ring_rows w c bytes')))
      → {s' : State} → s' ≡ settled_state l w time m fed → {verdict : Verdict} → verdict ≡ verdict_at w K.unit s'.filled s'.present s'.wander
      → Pushes K lim w c s bytes new n time s' bytes' fs' gs' verdict
  push-some narrow some new-long l-is start_is {bytes'} {fs'} {gs'} ring written fed-is m m-le m-is {s'} s-is {verdict} v =
      settled narrow some new-long bytes' fs' gs' ring (rw start_is at written) m m-le m-is s' verdict (rw (l-is, fed-is, start_is) at s-is) v
