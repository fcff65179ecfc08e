-- Places in the life of a unit, as the plain room has them: behind some calls, within a run; boundaries among them; and what a run gives that passes
-- such a place (docs/SPEC.md, "The plain room", second paragraph). Assumes nothing.
use Rattle.std.specs.Prelude.{◌≡◌, ℕ, ◌+◌, ◌-◌, ◌*◌, true, false, cond, List, [], ◌∷◌, ◌++◌, length}
use Rattle.std.proofs.Math.Option.{Option, none, some}
use Rattle.unit.specs.Records.{Mark, Record, whole, sample, reset, note, look, Event, took, noted, cut}
use Rattle.unit.specs.Answers.{Answer, told, Said, later}
use Rattle.unit.specs.Sensing.{Sensing, to_calibrate, written, Together}
use Rattle.unit.specs.Walk.{Walked, run_of, short_of, six_of}
use Rattle.unit.specs.Room.{Room, new_room, plain, in_force, refusal_of, other_tag, released_by, room_answers}
use Rattle.unit.specs.Calls.{Return, ran, Call, begin_refusal, returns, room_then}

module _ (S : Sensing) where
  -- the plain room's returns, and its room, behind a beginning given g on memory m and then these calls
  abbrev pub plainly : (m : List ℕ) → S.Given → List (Call S) → List (Return S)
  plainly m g cs = returns S (length m) (new_room S (S.settings g)) cs

  abbrev pub room_behind : (m : List ℕ) → S.Given → List (Call S) → Room S
  room_behind m g cs = room_then S (length m) (new_room S (S.settings g)) cs

  -- A place in a run behind the calls cs: behind the bytes p, which are whole records and all answered.
  pub record Place : Type 0 where
    pub memory : List ℕ
    pub given : S.Given
    pub calls : List (Call S)
    pub behind : List ℕ
    pub space : List ℕ
    pub accepted : begin_refusal S given (length memory) ≡ 0
    pub all_whole : (cut S.kinds behind).torn ≡ false
    pub all-answered : (run_of S (plain S) (room_behind memory given calls) behind (length space)).need ≡ 0

  -- the earlier calls' returns, and the room in which the run starts
  abbrev pub earlier : Place → List (Return S)
  earlier P = plainly P.memory P.given P.calls

  abbrev pub room_before : Place → Room S
  room_before P = room_behind P.memory P.given P.calls

  -- what the run has come to at the place, the room there, and the space left there
  abbrev pub past : Place → Walked S (Room S)
  past P = run_of S (plain S) (room_before P) P.behind (length P.space)

  abbrev pub room_at : Place → Room S
  room_at P = (past P).state

  abbrev pub space_left : Place → ℕ
  space_left P = length P.space - S.answer_size * length (past P).answers

  -- there is space for what this record is answered
  abbrev pub HasSpace : Place → Record → Type 0
  HasSpace P r = short_of S (space_left P) (length (room_answers S (room_at P) r)) ≡ 0

  -- The place is a boundary in a run that goes on with the bytes q: the last record before it is a reset, or the next is an accepted sample (so its
  -- answers have space) whose tag is another than that of the samples accepted since the last boundary.
  pub data Boundary (P : Place) (q : List ℕ) : Type 0 where
    behind-a-reset : (ps : List Record) (body : List ℕ) → (cut S.kinds P.behind).records ≡ ps ++ whole reset body ∷ [] → Boundary P q
    at-another-tag : (k : Mark) (body : List ℕ) (rest : List Record) → (cut S.kinds q).records ≡ whole (sample k) body ∷ rest
        → HasSpace P (whole (sample k) body) → refusal_of S (room_at P) k body ≡ 0 → other_tag S (room_at P).L body ≡ true → Boundary P q

  abbrev pub to_list : Option S.Finding → List (Answer S.Finding)
  to_list none = []
  to_list (some f) = told f ∷ []

  -- The answers to the record at a boundary that count as before it: what is found of a sample held back, which a change of tag makes the detectors take.
  abbrev pub answers_before : {P : Place} {q : List ℕ} → Boundary P q → List (Answer S.Finding)
  answers_before (behind-a-reset ps body e) = []
  answers_before {P = P} (at-another-tag k body rest e fits ok other) = to_list (released_by S (room_at P) (took k body))

  -- How many answers of a unit just begun they take the place of: that to a sample to watch, if there is such a line.
  abbrev pub in_place_of : {P : Place} {q : List ℕ} → Boundary P q → ℕ
  in_place_of (behind-a-reset ps body e) = 0
  in_place_of {P = P} (at-another-tag k body rest e fits ok other) = cond (to_calibrate k) 0 (length (to_list (released_by S (room_at P) (took k body))))

  -- the space left there once they are written
  abbrev pub space_at_boundary : {P : Place} {q : List ℕ} → Boundary P q → ℕ
  space_at_boundary {P = P} b = space_left P - S.answer_size * (length (answers_before b) - in_place_of b)

  -- L is empty behind a reset.
  abbrev pub EmptyBehindAReset : Type 0
  EmptyBehindAReset =
      (P : Place) (ps : List Record) (body : List ℕ) → (cut S.kinds P.behind).records ≡ ps ++ whole reset body ∷ [] → (room_at P).L ≡ []

  -- L's samples meet no refusal by their bytes, have one tag, and no more of them are calibrated than may be.
  abbrev pub OneTagSinceABoundary : Type 0
  OneTagSinceABoundary = (P : Place) → (t : ℕ) × Together S (room_at P).settings t (room_at P).L

  -- There is something to begin a unit with that then has the settings in force at a place; the same memory would do.
  abbrev pub CanBeginAnew : Type 0
  CanBeginAnew = (P : Place) → (g : S.Given) × (S.settings g ≡ in_force S (room_at P)) × (begin_refusal S g (length P.memory) ≡ 0)

  -- Looks leave no trace: behind the same calls and the same records but for looks there is the same room, so that, by
  -- `FromTheSamplesAlone`, what follows is the same.
  abbrev pub without_looks : List Record → List Record
  without_looks [] = []
  without_looks (whole (sample k) body ∷ rs) = whole (sample k) body ∷ without_looks rs
  without_looks (whole reset body ∷ rs) = whole reset body ∷ without_looks rs
  without_looks (whole (note n) body ∷ rs) = whole (note n) body ∷ without_looks rs
  without_looks (whole (look n) body ∷ rs) = without_looks rs

  abbrev pub LooksLeaveNoTrace : Type 0
  LooksLeaveNoTrace =
      (P Q : Place) → room_before P ≡ room_before Q
      → without_looks (cut S.kinds P.behind).records ≡ without_looks (cut S.kinds Q.behind).records → room_at P ≡ room_at Q

  -- No kind of record is a note, and no call of the host's is one: then L holds samples alone, and the settings in force are those
  -- at the last boundary.
  abbrev pub OnlySamples : List Event → Type 0
  OnlySamples [] = Unit {0}
  OnlySamples (took k body ∷ L) = OnlySamples L
  OnlySamples (noted n body ∷ L) = ⊥

  abbrev pub SamplesAlone : Type 0
  SamplesAlone = (P : Place) → OnlySamples (room_at P).L × (in_force S (room_at P) ≡ (room_at P).settings)

  -- what a run gives that came to these answers, to 6 with this need (0: not to 6) and to this count of bytes
  abbrev pub run_gives : (space : List ℕ) → List (Said S.Finding) → (need used : ℕ) → Return S
  run_gives space answers need used =
      ran (record { refusal = six_of S need; need = need; answers = length answers; used = used }) (written S answers space)

  -- What a run gives that passed a place and then came to these answers, need and count, positions and count taken from there: its positions and both
  -- its counts are larger by what it held before.
  abbrev pub goes_on : Place → List (Said S.Finding) → (need used : ℕ) → Return S
  goes_on P answers need used =
      run_gives P.space ((past P).answers ++ later (length P.behind) answers) need (length P.behind + used)
