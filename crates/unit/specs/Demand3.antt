-- Demand 3, as statements about a unit's calls. `Called m c r m'`: the call c, lent memory m, gives r and leaves m'. proofs/Demand3 proves them for
-- any calls that keep the promises of specs/Promises. docs/DEMAND3.md goes through the demand's text. Assumes nothing.
use Rattle.std.specs.Prelude.{◌≡◌, ℕ, true, List, [], ◌∷◌, ◌++◌, ◌⊎◌, length, drop, ltb}
use Rattle.std.proofs.Math.Option.{some}
use Rattle.unit.specs.Records.{Event, took, noted, Record, whole, sample, reset, note, look, cut}
use Rattle.unit.specs.Answers.{Said, said_at}
use Rattle.unit.specs.Sensing.{Sensing, WarmUp}
use Rattle.unit.specs.Room.{Room, in_force, refusal_of, left, finding_of, released_by, room_answers}
use Rattle.unit.specs.Calls.{Return, begun, ran, Call, begin, run, begin_refusal}
use Rattle.unit.specs.Places.{plainly, Place, earlier, room_at, space_left, HasSpace, Boundary, answers_before, in_place_of, space_at_boundary, EmptyBehindAReset, OneTagSinceABoundary, CanBeginAnew, LooksLeaveNoTrace, run_gives, goes_on}
use Rattle.unit.specs.declared.Ran.{Ran}

module _ (S : Sensing) (Called : List ℕ → Call S → Return S → List ℕ → Type 0) where
  -- Calls on one unit's memory, each lent the memory as the last left it: from memory m they give rs and leave m'.
  pub data Execution : List ℕ → List (Call S) → List (Return S) → List ℕ → Type 0 where
    done : {m : List ℕ} → Execution m [] [] m
    call : {m m' m'' : List ℕ} {c : Call S} {r : Return S} {cs : List (Call S)} {rs : List (Return S)}
        → Called m c r m' → Execution m' cs rs m'' → Execution m (c ∷ cs) (r ∷ rs) m''

  -- A beginning given g, accepted on memory m whatever bytes it holds, and then the calls cs give rs.
  pub record Life (m : List ℕ) (g : S.Given) (cs : List (Call S)) (rs : List (Return S)) : Type 0 where
    pub memory : List ℕ
    pub accepted : begin_refusal S g (length m) ≡ 0
    pub calls : Execution m (begin g ∷ cs) rs memory

  -- a life with this place in it, whose run goes on with q and which goes on with the calls ds
  abbrev pub Passing : Place S → (q : List ℕ) → List (Call S) → List (Return S) → Type 0
  Passing P q ds rs = Life P.memory P.given (P.calls ++ run (P.behind ++ q) P.space ∷ ds) rs

  -- All that the calls give is what the plain room gives.
  abbrev pub AsThePlainRoom : Type 0
  AsThePlainRoom =
      (m : List ℕ) (g : S.Given) (cs : List (Call S)) (rs : List (Return S)) → Life m g cs rs → rs ≡ begun 0 ∷ plainly S m g cs

  -- Two lives, however they came there, at places with equal settings and equal samples since the last boundary: given the same rest of the run,
  -- equal space left and the same later calls, they give the same from there on.
  pub record SameFrom (P Q : Place S) (rs qs : List (Return S)) : Type 0 where
    pub answers : List (Said S.Finding)
    pub need : ℕ
    pub used : ℕ
    pub rest : List (Return S)
    pub one : rs ≡ begun 0 ∷ earlier S P ++ goes_on S P answers need used ∷ rest
    pub other : qs ≡ begun 0 ∷ earlier S Q ++ goes_on S Q answers need used ∷ rest

  abbrev pub FromTheSamplesAlone : Type 0
  FromTheSamplesAlone =
      (P Q : Place S) (q : List ℕ) (ds : List (Call S)) (rs qs : List (Return S))
      → Passing P q ds rs → Passing Q q ds qs → room_at S P ≡ room_at S Q → space_left S P ≡ space_left S Q → SameFrom P Q rs qs

  -- A life with a boundary in a run, and one just begun with the settings there, which is given the rest of that run with equal space, and then the
  -- same calls: the later returns are equal; those of the run are, but that its positions and counts are larger by what it held before. What a change of
  -- tag still draws from before it (`answers_before`) comes first, and takes the place of so many (`in_place_of`) answers of the unit just begun.
  pub record AlikeFrom {P : Place S} {q : List ℕ} (b : Boundary S P q) (space : List ℕ) (rs qs : List (Return S)) : Type 0 where
    pub answers : List (Said S.Finding)
    pub need : ℕ
    pub used : ℕ
    pub rest : List (Return S)
    pub with-a-past : rs ≡ begun 0 ∷ earlier S P ++ goes_on S P (said_at 0 (answers_before S b) ++ drop (in_place_of S b) answers) need used ∷ rest
    pub just-begun : qs ≡ begun 0 ∷ run_gives S space answers need used ∷ rest

  abbrev pub AlikeFromABoundary : Type 0
  AlikeFromABoundary =
      (P : Place S) (q : List ℕ) (ds : List (Call S)) (rs : List (Return S)) (n : List ℕ) (h : S.Given) (space : List ℕ) (qs : List (Return S))
      → Passing P q ds rs → (b : Boundary S P q) → Life n h (run q space ∷ ds) qs → S.settings h ≡ in_force S (room_at S P)
      → length space ≡ space_at_boundary S b → AlikeFrom b space rs qs

  -- Where no sample is ever held back (the room has none that is), a change of tag draws nothing from before it, and this says:
  pub record PlainlyAlike (P : Place S) (space : List ℕ) (rs qs : List (Return S)) : Type 0 where
    pub answers : List (Said S.Finding)
    pub need : ℕ
    pub used : ℕ
    pub rest : List (Return S)
    pub with-a-past : rs ≡ begun 0 ∷ earlier S P ++ goes_on S P answers need used ∷ rest
    pub just-begun : qs ≡ begun 0 ∷ run_gives S space answers need used ∷ rest

  abbrev pub AlikePlainly : Type 0
  AlikePlainly =
      (P : Place S) (q : List ℕ) (ds : List (Call S)) (rs : List (Return S)) (n : List ℕ) (h : S.Given) (space : List ℕ) (qs : List (Return S))
      → Passing P q ds rs → Boundary S P q → Life n h (run q space ∷ ds) qs → S.settings h ≡ in_force S (room_at S P)
      → length space ≡ space_left S P → PlainlyAlike P space rs qs

  -- Behind an accepted beginning the returns are those of a life just begun with its settings.
  abbrev pub AlikeFromABeginning : Type 0
  AlikeFromABeginning =
      (m : List ℕ) (g g' : S.Given) (cs ds : List (Call S)) (rs : List (Return S)) (n : List ℕ) (h : S.Given) (qs : List (Return S))
      → Life m g (cs ++ begin g' ∷ ds) rs → begin_refusal S g' (length m) ≡ 0 → Life n h ds qs → S.settings h ≡ S.settings g'
      → rs ≡ begun 0 ∷ plainly S m g cs ++ qs

  -- Memory that the unit left is not refused: a run returns 0 or 6.
  abbrev pub NeverRefusedBy2 : Type 0
  NeverRefusedBy2 =
      (m : List ℕ) (g : S.Given) (cs ds : List (Call S)) (records space : List ℕ) (rs : List (Return S)) → Life m g (cs ++ run records space ∷ ds) rs
      → (r : Ran) × (space' : List ℕ) × (rest : List (Return S)) × (rs ≡ begun 0 ∷ plainly S m g cs ++ ran r space' ∷ rest)
      × ((r.refusal ≡ 0) ⊎ (r.refusal ≡ 6))

  module _ (W : WarmUp S) where
    -- a watch line says Warming just if so many are fewer than W
    abbrev pub Says : (room : Room S) → (fed : ℕ) → S.Finding → Type 0
    Says room fed f = W.line f ≡ true → W.says f ≡ ltb fed (W.width room.settings)

    -- The watch lines that a record is answered: of a sample held back, all fed since the boundary before it are counted; of the record itself, all
    -- since the boundary that it may be.
    abbrev pub Warm : (was is : Room S) → Event → Type 0
    Warm was is e =
        ((f : S.Finding) → released_by S was e ≡ some f → Says was (W.fed_in (was.L ++ e ∷ [])) f) × Says is (W.fed_in (is.L ++ e ∷ [])) (finding_of S is e)

    abbrev pub LinesWarm : Room S → Record → Type 0
    LinesWarm room (whole (sample k) body) = refusal_of S room k body ≡ 0 → Warm room (left S room body) (took k body)
    LinesWarm room (whole reset body) = Unit {0}
    LinesWarm room (whole (note n) body) = Warm room room (noted n body)
    LinesWarm room (whole (look n) body) = Says room (W.fed_in (room.L ++ noted n body ∷ [])) (finding_of S room (noted n body))

    -- Where the next record has space for its answers, these come next, and the watch lines among them say Warming just if fewer than W samples are fed.
    pub record AnsweredAt (P : Place S) (r : Record) (rs : List (Return S)) : Type 0 where
      pub more : List (Said S.Finding)
      pub need : ℕ
      pub used : ℕ
      pub rest : List (Return S)
      pub gives : rs ≡ begun 0 ∷ earlier S P ++ goes_on S P (said_at 0 (room_answers S (room_at S P) r) ++ more) need used ∷ rest
      pub warming : LinesWarm (room_at S P) r

    abbrev pub WarmsUntilFull : Type 0
    WarmsUntilFull =
        (P : Place S) (q : List ℕ) (ds : List (Call S)) (rs : List (Return S)) (r : Record) (behind : List Record)
        → Passing P q ds rs → (cut S.kinds q).records ≡ r ∷ behind → HasSpace S P r → AnsweredAt P r rs

  -- the whole claim
  pub record Demand3 (W : WarmUp S) : Type 0 where
    pub as-the-plain-room : AsThePlainRoom
    pub from-the-samples-alone : FromTheSamplesAlone
    pub alike-from-a-boundary : AlikeFromABoundary
    pub alike-from-a-beginning : AlikeFromABeginning
    pub can-begin-anew : CanBeginAnew S
    pub empty-behind-a-reset : EmptyBehindAReset S
    pub one-tag-since-a-boundary : OneTagSinceABoundary S
    pub looks-leave-no-trace : LooksLeaveNoTrace S
    pub never-refused-by-2 : NeverRefusedBy2
    pub warms-until-full : WarmsUntilFull W
