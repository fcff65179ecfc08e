-- A table has, for each mark that frame j can meet and each number of events, how many sequences of the frames from j on make so many from there; a
-- frame in front gives the next table, and that of frame 0 has the counts of a new machine.
use mathlib.Core.Path.{◌≡◌, sym, ap, subst, ◌∙◌}
use mathlib.Core.Bool.{Bool, cond}
use mathlib.Core.List.{List, [], ◌∷◌}
use Prim.Native.Nat.{ℕ, zero, suc, ◌+◌, ◌-◌, ◌*◌, ◌/◌, ◌%◌, ◌≤◌, ◌<◌}
use native.Mathlib.Decide.{dec_lt}
use native.Mathlib.Omega.{arith}
use borrow.Author.Tests.{ne_eqb, lt-ltb, le-ltb}
use lib.Dec.{eqb, ltb}
use lib.ListN.{length, get_or, get_or-eq_default}
use Rattle.num.specs.Lists.{build, keep, having, tallies}
use Rattle.num.specs.Sum.{total}
use Rattle.num.proofs.Cond.{cond-holds}
use Rattle.num.proofs.Each.{at_every}
use Rattle.num.proofs.Lists.{length-build, at-build, build-same}
use Rattle.num.proofs.Partition.{having-same}
use Rattle.num.proofs.Map.{map-agree}
use Rattle.fall.specs.declared.FallConfig.{FallConfig}
use Rattle.fall.specs.declared.FallDetector.{FallDetector}
use Rattle.fall.specs.declared.Phase.{Phase}
use Rattle.fall.specs.declared.Pushed.{Pushed}
use Rattle.fall.specs.Fall.{step_of, pushed, new_detector}
use Rattle.chance.specs.Chance.{sequences, said, events_of, counts_of, max_frames, max_choices, event_counts}
use Rattle.chance.specs.Marks.{phase_of, next_mark, reached, places, layers, entries, resting_place, place_of, mark_at, ways_at, empty_entry, empty_table, at, stepped, term_of, sum_of, entry_of, table_of, resting_counts, most_ways, Whole}
use Rattle.chance.specs.declared.Mark.{Mark}
use Rattle.chance.specs.declared.Mark.TheVariants.{Resting}
use Rattle.chance.proofs.Marks.{plain, events-plain, kept, stands, Good, good, met, later, next-good, at_place, place-small}
use Rattle.chance.proofs.Sequences.{ways-small, none_above, by_first}

-- an entry's number of events and place
event-of : (k x : ℕ) → x < places → (k * places + x) / places ≡ k
event-of k x h = omega arith

place_in : (k x : ℕ) → x < places → (k * places + x) % places ≡ x
place_in k x h = omega arith

-- from six events on there is no entry
pub past : (table : List ℕ) (k x : ℕ) → length table ≡ entries → layers ≤ k → ways_at table k x ≡ 0
unfolding ways_at
past table k x e h = get_or-eq_default table 0 {n = k * places + x} (omega arith)

-- an entry, and a term made of one, is small
pub ways-small-at : (table : List ℕ) → Whole table → (k x : ℕ) → ways_at table k x ≤ most_ways
unfolding ways_at
ways-small-at table whole k x = whole.small (k * places + x)

module _ (c : FallConfig) (s j : ℕ) (table : List ℕ) (k : ℕ) (m : Mark) (w : ℕ) where
  pub term_small : Whole table → term_of c s j table k m w ≤ most_ways
  unfolding term_of
  term_small whole = cond-holds (λ (n : ℕ). n ≤ most_ways) (ltb k (said (stepped c s j m w).suspicion)) _ _ (λ h. omega arith) (λ h. ways-small-at table whole _ _)

  -- a frame that says more events than are asked for, and one that does not
  module _ (r : Pushed) (e : ℕ) (step : r ≡ stepped c s j m w) (says : e ≡ said r.suspicion) where
    pub term_none : k < e → 0 ≡ term_of c s j table k m w
    unfolding term_of
    term_none h = rw (← step, ← says, lt-ltb k e h)

    pub term_some : e ≤ k → (x : ℕ) → x ≡ place_of (next_mark m j r.detector.phase) → ways_at table (k - e) x ≡ term_of c s j table k m w
    unfolding term_of
    term_some h x place = rw (← step, ← says, le-ltb k e h, place)

-- an entry that a loop has built
at_entry : (f : ℕ → Mark → ℕ) (k x : ℕ) → k < layers → x < places → ways_at (build entries (λ (p : ℕ). f (p / places) (mark_at (p % places)))) k x ≡ f k (mark_at x)
unfolding ways_at
at_entry f k x h l =
    at-build entries (λ (p : ℕ). f (p / places) (mark_at (p % places))) (k * places + x) 0 (omega arith) ∙ rw (event-of k x l, place_in k x l)

module _ (c : FallConfig) (s : ℕ) (choices : List ℕ) where
  -- from mark m at frame j on, with n frames
  pub from_mark : (j n k : ℕ) → Mark → ℕ
  from_mark j n k m = having (events_of (at c (phase_of c s m)) (j * s) s) (sequences choices n) k

  pub record Holds (j n : ℕ) (table : List ℕ) : Type 0 where
    pub whole : Whole table
    pub ways : (k : ℕ) (m : Mark) → k < layers → Good j m → ways_at table k (place_of m) ≡ from_mark j n k m

  module _ (j n : ℕ) (h : j < max_frames) (table : List ℕ) (t : Holds (suc j) n table) (k : ℕ) (b : k < layers) (m : Mark) (g : Good j m) where
    module _ (w : ℕ) where
      after : Phase
      after = (stepped c s j m w).detector.phase

      next : Mark
      next = next_mark m j after

      -- from the next mark it goes on as from the next state
      goes_on : (i : ℕ) → from_mark (suc j) n i next ≡ having (events_of (stepped c s j m w).detector (j * s + s) s) (sequences choices n) i
      unfolding from_mark next after stepped pushed
      goes_on i =
          let e : suc j * s ≡ j * s + s = omega arith in
          let p : Phase = (step_of c (phase_of c s m) w (j * s)).detector.phase in
          rw (stands c s j w m, e)
          (having-same (events_of (at c (plain p)) (j * s + s) s) (events_of (at c p) (j * s + s) s) (events-plain c p (j * s + s) s) i (sequences choices n)
          ∙ ap (λ (d : FallDetector). having (events_of d (j * s + s) s) (sequences choices n) i) (sym (kept c (phase_of c s m) w (j * s))))

      term_is : term_of c s j table k m w
          ≡ cond (ltb k (said (stepped c s j m w).suspicion)) 0
          (having (events_of (stepped c s j m w).detector (j * s + s) s) (sequences choices n) (k - said (stepped c s j m w).suspicion))
      unfolding term_of next after
      term_is =
          let i = k - said (stepped c s j m w).suspicion in
          ap (λ (v : ℕ). cond (ltb k (said (stepped c s j m w).suspicion)) 0 v) (t.ways i next (omega arith) (next-good j m after g) ∙ goes_on i)

    -- all choices at a mark
    sum_is : sum_of c s j choices table k m ≡ from_mark j (suc n) k m
    unfolding sum_of from_mark stepped after pushed
    sum_is = ap total (map-agree _ _ choices (λ i l. term_is (get_or choices i 0))) ∙ sym (by_first (at c (phase_of c s m)) choices s (j * s) n k)

  -- a frame in front
  module _ (j n : ℕ) (h : j < max_frames) (few : length choices ≤ max_choices) (l : suc n ≤ max_frames) (table : List ℕ) (t : Holds (suc j) n table) where
    entry-met : (k : ℕ) (m : Mark) → k < layers → Good j m → entry_of c s j choices table k m ≡ from_mark j (suc n) k m
    unfolding entry_of
    entry-met k m b g = rw (met j m g) (sum_is j n h table t k b m g)

    entry-small : (k : ℕ) (m : Mark) → k < layers → entry_of c s j choices table k m ≤ most_ways
    unfolding entry_of from_mark
    entry-small k m b =
        cond-holds (λ (v : ℕ). v ≤ most_ways) (reached j m) _ _
        (λ e. rw (sum_is j n h table t k b m (good j m e)) (ways-small choices (suc n) l few (events_of (at c (phase_of c s m)) (j * s) s) k)) (λ e. omega arith)

    pub one-more-frame : Holds j (suc n) (table_of c s j choices table)
    unfolding table_of
    one-more-frame =
        let f : ℕ → ℕ = λ (p : ℕ). entry_of c s j choices table (p / places) (mark_at (p % places)) in
        let long = length-build entries f in
        record {
          whole = record {
            long = long;
            small = at_every (λ (v : ℕ). v ≤ most_ways) 0 (omega arith) (table_of c s j choices table) (λ p b. rw (at-build entries f p 0 (omega arith)) (entry-small (p / places) (mark_at (p % places)) (omega arith)));
          };
          ways = λ k m b g.
              let in-time = later j max_frames m (omega arith) g in
              at_entry (entry_of c s j choices table) k (place_of m) b (place-small m in-time)
              ∙ ap (entry_of c s j choices table k) (at_place m in-time) ∙ entry-met k m b g;
        }

  -- no frame: no event
  pub none_left : (j : ℕ) → j ≤ max_frames → Holds j 0 empty_table
  unfolding empty_table ways_at from_mark sequences keep events_of
  none_left j l = record {
    whole = record {
      long = length-build entries empty_entry;
      small = at_every (λ (v : ℕ). v ≤ most_ways) 0 (omega arith) empty_table
          (λ p b. let long = length-build entries empty_entry in rw (at-build entries empty_entry p 0 (omega arith)) (cond-holds (λ (v : ℕ). v ≤ most_ways) (ltb p places) 1 0 (λ e. omega arith) (λ e. omega arith)));
    };
    ways = λ k m b g.
        let x = place-small m (later j max_frames m l g) in
        at-build entries empty_entry (k * places + place_of m) 0 (omega arith) ∙ by k (place_of m) x;
  }
    where
      by : (k x : ℕ) → x < places → empty_entry (k * places + x) ≡ length {A = List ℕ} (cond (eqb 0 k) ([] ∷ []) [])
      by zero x h = ap (λ (b : Bool). cond b 1 0) (lt-ltb (0 * places + x) places (omega arith))
      by (suc k) x h =
          ap (λ (b : Bool). cond b 1 0) (le-ltb (suc k * places + x) places (omega arith))
          ∙ ap (λ (b : Bool). length {A = List ℕ} (cond b ([] ∷ []) [])) (sym (ne_eqb 0 (suc k) (λ (q : 0 ≡ suc k). omega arith)))

  -- from frame 0 on
  pub counts-are : (n : ℕ) → n ≤ max_frames → (table : List ℕ) → Holds 0 n table → resting_counts table ≡ counts_of c choices s n
  unfolding resting_counts tallies from_mark phase_of place_of Good
  counts-are n l table t = build-same event_counts _ _ (λ k h. by k (dec_lt k layers))
    where
      by : (k : ℕ) → Dec (k < layers) → ways_at table k resting_place ≡ having (events_of (new_detector c) 0 s) (sequences choices n) k
      by k (yes h) = t.ways k Resting h tt ∙ (let e : 0 * s ≡ 0 = omega arith in rw e)
      by k (no h) = past table k resting_place t.whole.long (omega arith) ∙ sym (none_above choices n l c 0 s k (omega arith))

-- ---- the loop over the frames, from the last to the first: frames j and later are taken
module _ (c : FallConfig) (s : ℕ) (choices : List ℕ) (n : ℕ) where
  pub record Taken (table : List ℕ) (j : ℕ) : Type 0 where
    pub within : j ≤ n
    pub holds : Holds c s choices j (n - j) table

  pub none-taken : n ≤ max_frames → (table : List ℕ) → table ≡ empty_table → Taken table n
  none-taken l table e = let z : n - n ≡ 0 = omega arith in record { within = omega arith; holds = rw (e, z) (none_left c s choices n l) }

  module _ {table : List ℕ} {j : ℕ} (t : Taken table j) (l : n ≤ max_frames) where
    pub one-taken : length choices ≤ max_choices → (next : List ℕ) → 0 < j → next ≡ table_of c s (j - 1) choices table → Taken next (j - 1)
    one-taken few next h e =
        let i = j - 1 in let x : j ≡ suc i = omega arith in let y : n - i ≡ suc (n - j) = omega (arith, t.within) in
        record {
          within = omega (arith, t.within);
          holds =
              rw (e, y)
              (one-more-frame c s choices i (n - j) (omega (arith, t.within)) few (omega (arith, t.within)) table (subst (λ (a : ℕ). Holds c s choices a (n - j) table) x t.holds));
        }

    pub all_taken : j ≤ 0 → resting_counts table ≡ counts_of c choices s n
    all_taken h =
        let z : j ≡ 0 = omega arith in let y : n - j ≡ n = omega arith in
        counts-are c s choices n l table (subst (λ (a : ℕ). Holds c s choices a n table) z (subst (λ (a : ℕ). Holds c s choices j a table) y t.holds))
