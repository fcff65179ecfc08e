-- A frame taken: each step of the state and its ring is the step of the estimator that they stand for, and stays in range. Assumes nothing.
use mathlib.Core.Path.{◌≡◌, refl, sym, ap, ◌∙◌}
use mathlib.Core.Bool.{Bool, true, false, cond}
use mathlib.Core.List.{List, [], map}
use Prim.Native.Nat.{ℕ, ◌+◌, ◌*◌, ◌/◌, ◌≤◌, ◌<◌}
use native.Mathlib.Nat.{mod-lt}
use native.Mathlib.Decide.{dec_lt}
use native.Mathlib.Omega.{arith}
use borrow.Author.Tests.{lt-ltb, le-ltb, ne_eqb, eqb-true, leb-false}
use lib.Dec.{ltb, eqb}
use lib.ListN.{length, take, drop, get_or, set, replicate, length-replicate, get_or-replicate, length-map}
use lib.Seq.{length-take-le, take_at}
use Rattle.std.specs.Prelude.{Option, None, Some}
use Rattle.num.specs.Lists.{plus}
use Rattle.num.proofs.Cond.{cond-holds}
use Rattle.num.proofs.Each.{at_every}
use Rattle.num.proofs.Logic.{never}
use Rattle.num.proofs.Lists.{take-map, take-replicate}
use Rattle.num.proofs.Totals.{length-plus, take-plus, plus-most}
use Rattle.window.specs.Window.{columns, ring_rows, push_row, window_of, overwrite, next_slot, filled_after}
use Rattle.window.specs.Words.{words}
use Rattle.window.proofs.Rows.{length_cut}
use Rattle.window.proofs.View.{window-push, window-none, length-window}
use Rattle.vitals.specs.declared.config.VitalsConfig.{VitalsConfig}
use Rattle.estimator.specs.Estimate.{estimate_of}
use Rattle.estimator.specs.Estimator.{Rhythm, restarted, start_for, with_frame, closed, or_one, due_at, without_estimate, judged, push_frame}
use Rattle.estimator.specs.State.{rhythm_at, ring_length, restarted_at, begun_at, fed_at, closed_at, rested_at, judged_at, begun_totals, fed_totals, rows_with, judged_by, Took}
use Rattle.estimator.specs.declared.Progress.{Progress}
use Rattle.estimator.specs.declared.Vitals.{Vitals}
use Rattle.estimator.specs.declared.VitalsEstimator.{VitalsEstimator}
use Rattle.estimator.proofs.Facts.{Legal, Bounded, Waiting, InRange, range-tells}

zero-bound : (frames : ℕ) → Bounded frames (replicate columns 0)
zero-bound frames k h = rw (get_or-replicate {A = ℕ} columns k 0 0 h) (omega arith)

-- a restart is in range, and stands for an estimator that remembers nothing
pub restart-range : (cfg : VitalsConfig) (n count : ℕ) → 1 ≤ n → count ≤ columns → InRange cfg n (restarted_at count) (replicate columns 0)
restart-range cfg n count some narrow = record {
  slot = omega arith;
  most = omega arith;
  narrow = narrow;
  opened = omega arith;
  totals = zero-bound 0;
  since = record { filling = λ h. refl; full = λ h. absurd (omega arith) };
}

pub restart-law : (count : ℕ) (rows : List (List ℕ)) → count ≤ columns → rhythm_at (restarted_at count) (replicate columns 0) rows ≡ restarted count
unfolding rhythm_at
restart-law count rows narrow = rw (window-none 0 count rows, take-replicate {A = ℕ} 0 count columns narrow)

-- the start of a frame: an unchanged count, or a restart
module _ (cfg : VitalsConfig) (n : ℕ) (p : Progress) (acc : List ℕ) (range : InRange cfg n p acc) (acc-long : length acc ≡ columns) (some : 1 ≤ n) (count : ℕ) (narrow : count ≤ columns) where
  pub begun-range : InRange cfg n (begun_at p count) (begun_totals p acc count)
  begun-range = go (eqb p.count count)
    where
      go : (b : Bool) → InRange cfg n (cond b p (restarted_at count)) (cond b acc (replicate columns 0))
      go true = range
      go false = restart-range cfg n count some narrow

  pub begun-count : (begun_at p count).count ≡ count
  begun-count = cond-holds (λ (t : Progress). t.count ≡ count) (eqb p.count count) p (restarted_at count) (λ e. eqb-true p.count count e) (λ e. refl)

  pub begun-long : length (begun_totals p acc count) ≡ columns
  begun-long = cond-holds (λ (t : List ℕ). length t ≡ columns) (eqb p.count count) acc (replicate columns 0) (λ e. acc-long) (λ e. length-replicate {A = ℕ} columns 0)

  begun-law : (rows : List (List ℕ)) (f : List ℕ) → length f ≡ count → rhythm_at (begun_at p count) (begun_totals p acc count) rows ≡ start_for (rhythm_at p acc rows) f
  unfolding rhythm_at
  begun-law rows f e =
      rw (length-take-le p.count acc (omega (arith, range.narrow)), e) (go (eqb p.count count))
    where
      go : (b : Bool) → rhythm_at (cond b p (restarted_at count)) (cond b acc (replicate columns 0)) rows ≡ cond b (rhythm_at p acc rows) (restarted count)
      go true = refl
      go false = restart-law count rows narrow

-- a frame is added
feed-law : (p : Progress) (acc : List ℕ) (rows : List (List ℕ)) (f : List ℕ) → length f ≡ p.count → p.count ≤ length acc → rhythm_at (fed_at p) (plus acc f) rows ≡ with_frame (rhythm_at p acc rows) f
unfolding rhythm_at
feed-law p acc rows f e h =
    ap (λ (t : List ℕ). record { blocks = window_of p.next p.filled p.count rows; totals = t; frames = p.acc_n + 1; since = p.since_update })
    (take-plus p.count acc f e h)

-- a block is closed
close-law : (n : ℕ) (p : Progress) (acc : List ℕ) (rows : List (List ℕ)) → length rows ≡ n → p.next < n → p.filled ≤ n → p.count ≤ columns → length acc ≡ columns
    → rhythm_at (closed_at n p) (replicate columns 0) (rows_with p acc rows) ≡ closed n (rhythm_at p acc rows)
unfolding rhythm_at
close-law n p acc rows rows_long slot most narrow acc-long =
    let mean : ℕ → ℕ = λ total. total / p.acc_n in
    let m : List ℕ = map mean acc in
    let row : List ℕ = overwrite (get_or rows p.next []) m p.count in
    let front : take p.count row ≡ map mean (take p.count acc) =
    take_at (take p.count m) (drop p.count (get_or rows p.next [])) p.count (length-take-le p.count m (omega (arith, length-map acc mean))) ∙ take-map mean p.count acc in
    let window : window_of (next_slot n p.next) (filled_after n p.filled) p.count (set rows p.next row) ≡ push_row n (window_of p.next p.filled p.count rows) (take p.count row) =
    window-push n p.next p.filled p.count rows row slot most rows_long in
    rw (window, front, take-replicate {A = ℕ} 0 p.count columns narrow, length-take-le p.count acc (omega arith))

-- an estimate that is due finds the window full; one that is not due, in a full window, has few blocks since the last
due-full : (every n filled since : ℕ) → due_at every n filled since ≡ true → n ≤ filled
due-full every n filled since e = go (dec_lt filled n)
  where
    go : Dec (filled < n) → n ≤ filled
    go (yes h) = absurd (never (rw (lt-ltb filled n h) at e))
    go (no f) = omega arith

wait-few : (every n filled since : ℕ) → due_at every n filled since ≡ false → n ≤ filled → since < every
wait-few every n filled since e h = leb-false every since (rw (le-ltb filled n h) at e)

-- what a push is given
pub record Given (cfg : VitalsConfig) (n : ℕ) (s : VitalsEstimator) (bytes frame : List ℕ) : Type 0 where
  pub legal : Legal cfg n
  pub range : InRange cfg n s.progress s.acc
  pub acc-long : length s.acc ≡ columns
  pub narrow : length frame ≤ columns
  pub whole : length bytes ≡ ring_length n

-- a frame, and what it makes of the totals
module _ (cfg : VitalsConfig) (n time : ℕ) (s : VitalsEstimator) (bytes frame : List ℕ) (g : Given cfg n s bytes frame) where
  abbrev p : Progress
  p = s.progress

  abbrev acc : List ℕ
  acc = s.acc

  abbrev rows : List (List ℕ)
  rows = ring_rows n columns bytes

  abbrev count : ℕ
  count = length frame

  abbrev start : Progress
  start = begun_at p count

  abbrev totals : List ℕ
  totals = fed_totals p acc frame

  some : 1 ≤ n
  some = omega (arith, g.legal.least)

  from : InRange cfg n start (begun_totals p acc count)
  from = begun-range cfg n p acc g.range g.acc-long some count g.narrow

  -- an empty frame
  pub took-none : count ≡ 0 → Took cfg n time s bytes frame None s bytes
  unfolding push_frame
  took-none e = record {
    progress = rw e;
    totals = rw e;
    rows = rw e;
    whole = g.whole;
    range = (range-tells cfg n p acc).1 g.range;
    step = rw e;
  }

  -- the totals of a frame more
  pub fed-bound : ((k : ℕ) → get_or frame k 0 ≤ 65535) → Bounded (start.acc_n + 1) totals
  fed-bound small k h =
      let long = begun-long cfg n p acc g.range g.acc-long some count g.narrow in
      omega (
        arith,
        plus-most (start.acc_n * 65535) 65535 (begun_totals p acc count) frame
            (at_every (λ (v : ℕ). v ≤ start.acc_n * 65535) 0 (omega arith) (begun_totals p acc count) (λ j l. from.totals j (omega arith)))
            small
            k,
      )

  pub totals-long : length totals ≡ columns
  totals-long = length-plus (begun_totals p acc count) frame ∙ begun-long cfg n p acc g.range g.acc-long some count g.narrow

  at_count : start.count ≡ count
  at_count = begun-count cfg n p acc g.range g.acc-long some count g.narrow

  -- the frame in the open block
  abbrev added : Rhythm
  added = rhythm_at (fed_at start) totals rows

  added-law : added ≡ with_frame (start_for (rhythm_at p acc rows) frame) frame
  added-law =
      feed-law start (begun_totals p acc count) rows frame (sym at_count) (omega (arith, at_count, g.narrow, begun-long cfg n p acc g.range g.acc-long some count g.narrow))
      ∙ ap (λ (d : Rhythm). with_frame d frame) (begun-law cfg n p acc g.range g.acc-long some count g.narrow rows frame refl)

  -- a push, by whether that block is whole
  push-law : (count ≡ 0 → ⊥) → cond (ltb (start.acc_n + 1) (or_one cfg.decim)) (without_estimate added) (judged cfg n time (closed n added)) ≡ push_frame cfg n time (rhythm_at p acc rows) frame
  unfolding push_frame rhythm_at
  push-law not_None =
      rw (ne_eqb (length frame) 0 not_None)
      (ap (λ (d : Rhythm). cond (ltb d.frames (or_one cfg.decim)) (without_estimate d) (judged cfg n time (closed n d))) added-law)

  pub took-open : (count ≡ 0 → ⊥) → Bounded (start.acc_n + 1) totals → start.acc_n + 1 < or_one cfg.decim
      → Took cfg n time s bytes frame None (record { progress = fed_at start; acc = totals }) bytes
  took-open not_None bound still = record {
    progress = rw (ne_eqb count 0 not_None, lt-ltb (start.acc_n + 1) (or_one cfg.decim) still);
    totals = rw (ne_eqb count 0 not_None, lt-ltb (start.acc_n + 1) (or_one cfg.decim) still);
    rows = rw (ne_eqb count 0 not_None, lt-ltb (start.acc_n + 1) (or_one cfg.decim) still);
    whole = g.whole;
    range = (range-tells cfg n (fed_at start) totals).1 (record {
      slot = from.slot;
      most = from.most;
      narrow = from.narrow;
      opened = still;
      totals = bound;
      since = record { filling = from.since.filling; full = from.since.full };
    });
    step = rw (lt-ltb (start.acc_n + 1) (or_one cfg.decim) still) at (push-law not_None);
  }

  -- the blocks since the last estimate are few
  pub since-small : or_one cfg.update_every ≤ 65535 → start.since_update ≤ 65535
  since-small u = go (dec_lt start.filled n)
    where
      go : Dec (start.filled < n) → start.since_update ≤ 65535
      go (yes h) = omega (arith, from.since.filling h, g.legal.most)
      go (no f) = omega (arith, from.since.full (omega arith))

  -- A whole block: its means are written, and an estimate is made if one is due
  module _ (not_None : count ≡ 0 → ⊥) (full : or_one cfg.decim ≤ start.acc_n + 1) (bytes' : List ℕ) (whole' : length bytes' ≡ ring_length n)
      (written : ring_rows n columns bytes' ≡ rows_with (fed_at start) totals rows)
    where
      abbrev now : Progress
      now = closed_at n (fed_at start)

      abbrev rows' : List (List ℕ)
      rows' = ring_rows n columns bytes'

      rows_long : length rows' ≡ n
      rows_long = length_cut n columns (words bytes')

      closing : judged cfg n time (rhythm_at now (replicate columns 0) rows') ≡ push_frame cfg n time (rhythm_at p acc rows) frame
      closing =
          ap (λ (r : List (List ℕ)). judged cfg n time (rhythm_at now (replicate columns 0) r)) written
          ∙ ap (judged cfg n time) (close-law n (fed_at start) totals rows (length_cut n columns (words bytes)) from.slot from.most from.narrow totals-long)
          ∙ (rw (le-ltb (start.acc_n + 1) (or_one cfg.decim) full) at (push-law not_None))

      -- the window as long as it is filled
      blocks-long : length (window_of now.next now.filled now.count rows') ≡ now.filled
      blocks-long = length-window now.next now.filled now.count rows' (omega (arith, rows_long))

      next-slot : now.next < n
      next-slot = mod-lt (start.next + 1) (omega (arith, g.legal.least))

      -- in range, whatever is said of the blocks since the last estimate
      ranged : (since : ℕ) → Waiting cfg n (record { count = now.count; filled = now.filled; next = now.next; acc_n = 0; since_update = since })
          → InRange cfg n (record { count = now.count; filled = now.filled; next = now.next; acc_n = 0; since_update = since }) (replicate columns 0)
      ranged since w = record { slot = next-slot; most = omega arith; narrow = from.narrow; opened = omega arith; totals = zero-bound 0; since = w }

      abbrev due : Bool
      due = due_at (or_one cfg.update_every) n now.filled now.since_update

      took : (q : Progress) (answer : Option Vitals) → q ≡ judged_at cfg n now → InRange cfg n q (replicate columns 0)
          → record { after = rhythm_at q (replicate columns 0) rows'; answer = answer } ≡ judged cfg n time (rhythm_at now (replicate columns 0) rows')
          → Took cfg n time s bytes frame answer (record { progress = q; acc = replicate columns 0 }) bytes'
      took q answer e in-range law = record {
        progress = e ∙ rw (ne_eqb count 0 not_None, le-ltb (start.acc_n + 1) (or_one cfg.decim) full);
        totals = rw (ne_eqb count 0 not_None, le-ltb (start.acc_n + 1) (or_one cfg.decim) full);
        rows = written ∙ rw (ne_eqb count 0 not_None, le-ltb (start.acc_n + 1) (or_one cfg.decim) full);
        whole = whole';
        range = (range-tells cfg n q (replicate columns 0)).1 in-range;
        step = law ∙ closing;
      }

      all : due ≡ true → now.filled ≡ n
      all e = omega (arith, due-full (or_one cfg.update_every) n now.filled now.since_update e)

      due-law : due ≡ true → record { after = rhythm_at (rested_at now) (replicate columns 0) rows'; answer = Some (estimate_of cfg time (window_of now.next n now.count rows')) } ≡ judged cfg n time (rhythm_at now (replicate columns 0) rows')
      unfolding rhythm_at
      due-law e =
          ap (λ (k : ℕ). record { after = rhythm_at (rested_at now) (replicate columns 0) rows'; answer = Some (estimate_of cfg time (window_of now.next k now.count rows')) }) (sym (all e))
          ∙ rw (blocks-long, e)

      took-due : due ≡ true → Took cfg n time s bytes frame (Some (estimate_of cfg time (window_of now.next n now.count rows'))) (record { progress = rested_at now; acc = replicate columns 0 }) bytes'
      took-due e = took _ _ (rw e) (ranged 0 (record { filling = λ h. absurd (omega (arith, all e)); full = λ h. omega arith })) (due-law e)

      wait-law : due ≡ false → record { after = rhythm_at now (replicate columns 0) rows'; answer = None } ≡ judged cfg n time (rhythm_at now (replicate columns 0) rows')
      unfolding rhythm_at
      wait-law e = rw (blocks-long, e)

      filling : now.filled < n → now.since_update ≡ now.filled
      filling h = omega (arith, from.since.filling (omega arith))

      took-wait : due ≡ false → Took cfg n time s bytes frame None (record { progress = now; acc = replicate columns 0 }) bytes'
      took-wait e = took _ _ (rw e) (ranged now.since_update (record { filling = filling; full = λ h. wait-few (or_one cfg.update_every) n now.filled now.since_update e h })) (wait-law e)

      pub took-closed : Took cfg n time s bytes frame (judged_by cfg n time now rows') (record { progress = judged_at cfg n now; acc = replicate columns 0 }) bytes'
      took-closed = go due refl
        where
          go : (b : Bool) → due ≡ b → Took cfg n time s bytes frame (cond b (Some (estimate_of cfg time (window_of now.next n now.count rows'))) None) (record { progress = cond b (rested_at now) now; acc = replicate columns 0 }) bytes'
          go true e = took-due e
          go false e = took-wait e
