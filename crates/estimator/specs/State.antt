-- The estimator's state: its progress, the open block's totals, and the ring of block means in memory (vitals.rs, `VitalsEstimator`). What they
-- stand for, their ranges, and what a frame makes of them. Assumes nothing.
use Rattle.std.specs.Prelude.{◌≡◌, Bool, true, cond, ◌&&◌, List, [], map, ℕ, ◌+◌, ◌*◌, ◌/◌, eqb, ltb, leb, length, get_or, take, set, replicate, Option, None, Some}
use Rattle.num.specs.Lists.{plus}
use Rattle.num.specs.Tests.{all_below}
use Rattle.window.specs.Window.{columns, ring_rows, window_of, overwrite, next_slot, filled_after}
use Rattle.vitals.specs.Band.{usable}
use Rattle.vitals.specs.declared.config.VitalsConfig.{VitalsConfig}
use Rattle.estimator.specs.Estimator.{Rhythm, or_one, due_at, push_frame}
use Rattle.estimator.specs.Estimate.{estimate_of}
use Rattle.estimator.specs.declared.Progress.{Progress}
use Rattle.estimator.specs.declared.Vitals.{Vitals}
use Rattle.estimator.specs.declared.VitalsEstimator.{VitalsEstimator}

-- the estimator that a state and a ring stand for
unfoldable pub rhythm_at : Progress → (acc : List ℕ) → List (List ℕ) → Rhythm
rhythm_at p acc rows =
    record { blocks = window_of p.next p.filled p.count rows; totals = take p.count acc; frames = p.acc_n; since = p.since_update }

-- what settings have to keep: 4 to 512 blocks, at most 32,767 frames a block, and those of the band
unfoldable pub legal : VitalsConfig → ℕ → Bool
legal cfg n = leb 4 n && (leb n 512 && (leb cfg.decim 32767 && usable cfg.band cfg.rate_hz))

-- no total is above what so many frames can give
abbrev pub bounded : ℕ → List ℕ → Bool
bounded frames acc = all_below columns (λ k. leb (get_or acc k 0) (frames * 65535))

-- the blocks since the last estimate: those in the window while it fills, then too few for another
abbrev pub waiting : VitalsConfig → ℕ → Progress → Bool
waiting cfg n p = cond (ltb p.filled n) (eqb p.since_update p.filled) (ltb p.since_update (or_one cfg.update_every))

-- what a state has to keep
unfoldable pub in_range : VitalsConfig → ℕ → Progress → (acc : List ℕ) → Bool
in_range cfg n p acc =
    ltb p.next n &&
    (leb p.filled n && (leb p.count columns && (ltb p.acc_n (or_one cfg.decim) && (bounded p.acc_n acc && waiting cfg n p))))

-- the memory of a ring of n rows
abbrev pub ring_length : ℕ → ℕ
ring_length n = 2 * (n * columns)

-- Progress step by step: a restart, a frame, a whole block, an estimate
abbrev pub restarted_at : ℕ → Progress
restarted_at count = record { count = count; filled = 0; next = 0; acc_n = 0; since_update = 0 }

abbrev pub begun_at : Progress → ℕ → Progress
begun_at p count = cond (eqb p.count count) p (restarted_at count)

abbrev pub fed_at : Progress → Progress
fed_at p = record { count = p.count; filled = p.filled; next = p.next; acc_n = p.acc_n + 1; since_update = p.since_update }

abbrev pub closed_at : ℕ → Progress → Progress
closed_at n p = record { count = p.count; filled = filled_after n p.filled; next = next_slot n p.next; acc_n = 0; since_update = p.since_update + 1 }

abbrev pub rested_at : Progress → Progress
rested_at p = record { count = p.count; filled = p.filled; next = p.next; acc_n = p.acc_n; since_update = 0 }

abbrev pub judged_at : VitalsConfig → ℕ → Progress → Progress
judged_at cfg n p = cond (due_at (or_one cfg.update_every) n p.filled p.since_update) (rested_at p) p

-- the totals that a frame is added to: a restart empties them
abbrev pub begun_totals : Progress → (acc : List ℕ) → ℕ → List ℕ
begun_totals p acc count = cond (eqb p.count count) acc (replicate columns 0)

abbrev pub fed_totals : Progress → (acc frame : List ℕ) → List ℕ
fed_totals p acc frame = plus (begun_totals p acc (length frame)) frame

-- the rows with a whole block's means in the next slot; entries from the count on stay
abbrev pub rows_with : Progress → (acc : List ℕ) → List (List ℕ) → List (List ℕ)
rows_with p acc rows = set rows p.next (overwrite (get_or rows p.next []) (map (λ (total : ℕ). total / p.acc_n) acc) p.count)

-- What stands in each place after a frame of count columns: nothing new after an empty one, the frame in the open block, or a block more
module _ (cfg : VitalsConfig) (p : Progress) (count : ℕ) where
  abbrev pub after : {A : Type 0} → (same fed closed : A) → A
  after same fed closed = cond (eqb count 0) same (cond (ltb (fed_at (begun_at p count)).acc_n (or_one cfg.decim)) fed closed)

abbrev pub progress_after : VitalsConfig → (n : ℕ) → Progress → (count : ℕ) → Progress
progress_after cfg n p count = after cfg p count p (fed_at (begun_at p count)) (judged_at cfg n (closed_at n (fed_at (begun_at p count))))

abbrev pub totals_after : VitalsConfig → Progress → (acc frame : List ℕ) → List ℕ
totals_after cfg p acc frame = after cfg p (length frame) acc (fed_totals p acc frame) (replicate columns 0)

abbrev pub rows_after : VitalsConfig → Progress → (acc : List ℕ) → List (List ℕ) → (frame : List ℕ) → List (List ℕ)
rows_after cfg p acc rows frame = after cfg p (length frame) rows rows (rows_with (fed_at (begun_at p (length frame))) (fed_totals p acc frame) rows)

-- after a block, an estimate over the full window if one is due
abbrev pub judged_by : VitalsConfig → (n time : ℕ) → Progress → List (List ℕ) → Option Vitals
judged_by cfg n time p rows =
    cond (due_at (or_one cfg.update_every) n p.filled p.since_update) (Some (estimate_of cfg time (window_of p.next n p.count rows))) None

-- A frame taken: each place as defined above, all of it in range, and what it stands for the step of the definition
pub record Took (cfg : VitalsConfig) (n time : ℕ) (e : VitalsEstimator) (bytes frame : List ℕ) (answer : Option Vitals) (e' : VitalsEstimator) (bytes' : List ℕ) : Type 0 where
  pub progress : e'.progress ≡ progress_after cfg n e.progress (length frame)
  pub totals : e'.acc ≡ totals_after cfg e.progress e.acc frame
  pub rows : ring_rows n columns bytes' ≡ rows_after cfg e.progress e.acc (ring_rows n columns bytes) frame
  pub whole : length bytes' ≡ ring_length n
  pub range : in_range cfg n e'.progress e'.acc ≡ true
  pub step :
      record { after = rhythm_at e'.progress e'.acc (ring_rows n columns bytes'); answer = answer } ≡
      push_frame cfg n time (rhythm_at e.progress e.acc (ring_rows n columns bytes)) frame
