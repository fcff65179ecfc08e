-- How the code counts: the states that a new machine can be in where times are whole spacings, and a table with a count for each of them and for
-- each number of events. A mark is a state with frames in place of times, without what the machine never looks at (a burst's peak, and of a body
-- that lies still when the burst was).
use Rattle.std.specs.Prelude.{◌≡◌, Bool, true, cond, ◌&&◌, List, map, ℕ, ◌+◌, ◌-◌, ◌*◌, ◌/◌, ◌%◌, ◌≤◌, eqb, leb, ltb, length, get_or, Some, None}
use Rattle.num.specs.Sum.{total}
use Rattle.num.specs.Lists.{build}
use Rattle.fall.specs.declared.FallConfig.{FallConfig}
use Rattle.fall.specs.declared.FallDetector.{FallDetector}
use Rattle.fall.specs.declared.Pushed.{Pushed}
use Rattle.fall.specs.declared.Phase.{Phase}
use Rattle.fall.specs.declared.Phase.TheVariants.{Idle, Active, Burst, Settling, Refractory}
use Rattle.fall.specs.Fall.{end_of, pushed}
use Rattle.chance.specs.Chance.{said, max_frames, event_counts}
use Rattle.chance.specs.declared.Mark.{Mark}
use Rattle.chance.specs.declared.Mark.TheVariants.{Resting, Moving, Calming, Bursting, Lying, Waiting}

-- the state that a mark stands for
unfoldable pub phase_of : FallConfig → (spacing : ℕ) → Mark → Phase
phase_of c s Resting = Idle
phase_of c s (Moving a) = Active (a * s) None
phase_of c s (Calming a q) = Active (a * s) (Some (q * s))
phase_of c s (Bursting b) = Burst (b * s) 0
phase_of c s (Lying l) = Settling 0 0 (l * s)
phase_of c s (Waiting e) = Refractory (end_of c (e * s))

-- the frame that a part of the next state began at: that of the mark where it has this part, else frame j
abbrev pub since_mark : Mark → ℕ → ℕ
since_mark (Moving a) j = a
since_mark (Calming a q) j = a
since_mark _ j = j

abbrev pub quiet_mark : Mark → ℕ → ℕ
quiet_mark (Calming a q) j = q
quiet_mark _ j = j

abbrev pub burst_mark : Mark → ℕ → ℕ
burst_mark (Bursting b) j = b
burst_mark _ j = j

abbrev pub still_mark : Mark → ℕ → ℕ
still_mark (Lying l) j = l
still_mark _ j = j

abbrev pub end_mark : Mark → ℕ → ℕ
end_mark (Waiting e) j = e
end_mark _ j = j

-- the mark of the state that frame j leads to from a mark
unfoldable pub next_mark : Mark → (j : ℕ) → Phase → Mark
next_mark m j Idle = Resting
next_mark m j (Active s None) = Moving (since_mark m j)
next_mark m j (Active s (Some q)) = Calming (since_mark m j) (quiet_mark m j)
next_mark m j (Burst a p) = Bursting (burst_mark m j)
next_mark m j (Settling b p s) = Lying (still_mark m j)
next_mark m j (Refractory u) = Waiting (end_mark m j)

-- whether frame j can meet the mark: its frames are before it, and a body is quiet no sooner than it moves
unfoldable pub reached : (j : ℕ) → Mark → Bool
reached j Resting = true
reached j (Moving a) = ltb a j
reached j (Calming a q) = leb a q && ltb q j
reached j (Bursting b) = ltb b j
reached j (Lying l) = ltb l j
reached j (Waiting e) = ltb e j

-- ---- places: 24 rows of 24 for `Calming`, a row each for `Moving`, `Bursting`, `Lying` and `Waiting`, and `Resting` last
abbrev pub resting_place : ℕ
resting_place = 28 * max_frames

abbrev pub places : ℕ
places = 28 * max_frames + 1

unfoldable pub place_of : Mark → ℕ
place_of (Calming a q) = a * max_frames + q
place_of (Moving a) = 24 * max_frames + a
place_of (Bursting b) = 25 * max_frames + b
place_of (Lying l) = 26 * max_frames + l
place_of (Waiting e) = 27 * max_frames + e
place_of Resting = resting_place

abbrev pub mark_in : (row column : ℕ) → Mark
mark_in h l =
    cond (ltb h 24) (Calming h l)
    (cond (eqb h 24) (Moving l)
    (cond (eqb h 25) (Bursting l)
    (cond (eqb h 26) (Lying l)
    (cond (eqb h 27) (Waiting l) Resting))))

unfoldable pub mark_at : ℕ → Mark
mark_at x = mark_in (x / max_frames) (x % max_frames)

-- ---- a table: for 0 to 5 events, a count for each place. 24 frames make at most five
abbrev pub layers : ℕ
layers = 6

abbrev pub entries : ℕ
entries = layers * places

-- the count for k events at place x; none from six events on
unfoldable pub ways_at : List ℕ → (k x : ℕ) → ℕ
ways_at table k x = get_or table (k * places + x) 0

-- with no frame each state has one sequence, the empty one, which makes no event
abbrev pub empty_entry : (p : ℕ) → ℕ
empty_entry p = cond (ltb p places) 1 0

unfoldable pub empty_table : List ℕ
empty_table = build entries empty_entry

-- the machine in a state; and at a mark, after frame j with wander w
abbrev pub at : FallConfig → Phase → FallDetector
at c p = record { config = c; phase = p }

unfoldable pub stepped : FallConfig → (s j : ℕ) → Mark → (w : ℕ) → Pushed
stepped c s j m w = pushed (at c (phase_of c s m)) w (j * s)

-- one frame more, in front: how many of the sequences that begin with w make k events, by the table for those without it
unfoldable pub term_of : FallConfig → (s j : ℕ) → (table : List ℕ) → (k : ℕ) → Mark → (w : ℕ) → ℕ
term_of c s j table k m w =
    let r = stepped c s j m w in
    cond (ltb k (said r.suspicion)) 0 (ways_at table (k - said r.suspicion) (place_of (next_mark m j r.detector.phase)))

unfoldable pub sum_of : FallConfig → (s j : ℕ) → List ℕ → (table : List ℕ) → (k : ℕ) → Mark → ℕ
sum_of c s j choices table k m = total (map (term_of c s j table k m) choices)

-- at a mark that frame j can meet; nothing is counted at the others
unfoldable pub entry_of : FallConfig → (s j : ℕ) → List ℕ → (table : List ℕ) → (k : ℕ) → Mark → ℕ
entry_of c s j choices table k m = cond (reached j m) (sum_of c s j choices table k m) 0

unfoldable pub table_of : FallConfig → (s j : ℕ) → List ℕ → (table : List ℕ) → List ℕ
table_of c s j choices table = build entries (λ p. entry_of c s j choices table (p / places) (mark_at (p % places)))

-- the counts of a new machine
unfoldable pub resting_counts : (table : List ℕ) → List ℕ
resting_counts table = build event_counts (λ k. ways_at table k resting_place)

-- ---- what the steps of the code ask of each other
-- four choices to the power 24
abbrev pub most_ways : ℕ
most_ways = 281474976710656

-- a whole table, of which no entry is above that
pub record Whole (table : List ℕ) : Type 0 where
  pub long : length table ≡ entries
  pub small : (p : ℕ) → get_or table p 0 ≤ most_ways
