-- From a boundary on the plain room is one just begun: behind a reset L is empty, and a sample of another tag finds nothing of it.
use mathlib.Core.Path.{◌≡◌, refl, sym, ap, ap₂, ◌∙◌}
use Prim.Native.Nat.{ℕ, ◌+◌, ◌-◌, ◌*◌, ◌≤◌}
use native.Mathlib.Omega.{arith}
use mathlib.Core.Bool.{Bool, true, false, cond, ◌&&◌}
use mathlib.Core.Option.{Option, none, some}
use mathlib.Core.List.{List, [], ◌∷◌, ◌++◌, foldl}
use lib.ListN.{length, drop}
use lib.Dec.{leb, eqb}
use borrow.Author.Tests.{not-true}
use Rattle.unit.specs.Records.{Mark, Event, took, noted, Record, whole, sample, reset, note, look, Cut, size, cut}
use Rattle.unit.specs.Answers.{Answer, refused, told, said_at}
use Rattle.unit.specs.Sensing.{Sensing, detect, to_calibrate, calibrated_in, answers_to, Laws}
use Rattle.unit.specs.Walk.{Walked, walk, before, run_of, short_of}
use Rattle.unit.specs.Room.{Room, new_room, in_force, same_tag, other_tag, refusal_of, left, joined, finding_of, released_by, room_answers, room_next, plain}
use Rattle.unit.specs.Places.{Place, past, room_at, space_left, room_before, Boundary, behind-a-reset, at-another-tag, to_list, answers_before, in_place_of, space_at_boundary, EmptyBehindAReset, OneTagSinceABoundary, CanBeginAnew, without_looks, LooksLeaveNoTrace}
use Rattle.num.proofs.Logic.{never}
use Rattle.unit.proofs.Cutting.{whole_of, cut-append, cut-sizes}
use Rattle.unit.proofs.Walking.{onward, further, go_on, short_none, none-short, walk-cons, walk-append, walk-used, walk-later, walk-state, walk-last}
use Rattle.unit.proofs.Reached.{Reached, reached-new, reached-run, reached_then, begins-with}

module _ (S : Sensing) where
  -- ---- a sample of another tag is to the room what it is to a new one

  module _ (laws : Laws S) (room : Room S) (k : Mark) (body : List ℕ) (ok : refusal_of S room k body ≡ 0) (other : other_tag S room.L body ≡ true) where
    abbrev anew : Room S
    anew = new_room S (in_force S room)

    differs : (L : List Event) → other_tag S L body ≡ true → same_tag S L body ≡ false
    differs [] h = absurd (never h)
    differs (took m b ∷ L) h = not-true _ h
    differs (noted n b ∷ L) h = differs L h

    ok-anew : refusal_of S anew k body ≡ 0
    unfolding detect
    ok-anew =
        ap (λ (b : Bool). cond (eqb (S.bytes_refusal (in_force S room) body) 0)
        (cond (to_calibrate k && (b && leb S.limit (calibrated_in S room.L))) 8 0) (S.bytes_refusal (in_force S room) body)) (sym (differs room.L other))
        ∙ ok

    left-anew : left S room body ≡ anew
    left-anew = ap (λ (b : Bool). cond b anew room) other

    none-waits : released_by S anew (took k body) ≡ none
    unfolding detect
    none-waits = laws.none-waits (in_force S room) (took k body)

    answers-here : room_answers S room (whole (sample k) body) ≡ answers_to S (to_calibrate k) (released_by S room (took k body)) (finding_of S anew (took k body))
    answers-here =
        ap (λ (n : ℕ). cond (eqb n 0) (answers_to S (to_calibrate k) (released_by S room (took k body)) (finding_of S (left S room body) (took k body))) (refused n ∷ [])) ok
        ∙ ap (λ (x : Room S). answers_to S (to_calibrate k) (released_by S room (took k body)) (finding_of S x (took k body))) left-anew

    answers-anew : room_answers S anew (whole (sample k) body) ≡ told (finding_of S anew (took k body)) ∷ []
    answers-anew =
        ap (λ (n : ℕ). cond (eqb n 0) (answers_to S (to_calibrate k) (released_by S anew (took k body)) (finding_of S anew (took k body))) (refused n ∷ [])) ok-anew
        ∙ ap (λ (o : Option S.Finding). answers_to S (to_calibrate k) o (finding_of S anew (took k body))) none-waits

    next-same : room_next S room (whole (sample k) body) ≡ room_next S anew (whole (sample k) body)
    next-same =
        ap (λ (n : ℕ). cond (eqb n 0) (joined S (left S room body) (took k body)) room) ok ∙ ap (λ (x : Room S). joined S x (took k body)) left-anew
        ∙ sym (ap (λ (n : ℕ). cond (eqb n 0) (joined S anew (took k body)) anew) ok-anew)

    -- the walks from there, where there is space for all answers
    abbrev lines : List (Answer S.Finding)
    lines = to_list S (released_by S room (took k body))

    abbrev instead : ℕ
    instead = cond (to_calibrate k) 0 (length lines)

    abbrev alike : (space : ℕ) → (rs : List Record) (torn : Bool) → Type 0
    alike space rs torn =
        let w = walk S (plain S) anew 0 (space - S.answer_size * (length lines - instead)) (whole (sample k) body ∷ rs) torn in
        walk S (plain S) room 0 space (whole (sample k) body ∷ rs) torn
        ≡ record { answers = said_at 0 lines ++ drop instead w.answers; need = w.need; used = w.used; state = w.state }

    module _ (space : ℕ) (rs : List Record) (torn : Bool) (fits : short_of S space (length (room_answers S room (whole (sample k) body))) ≡ 0) where
      abbrev r : Record
      r = whole (sample k) body

      -- from there with these answers written, the rest is the same walk
      abbrev rest : (n : ℕ) → Walked S (Room S)
      rest n = walk S (plain S) (room_next S anew r) (0 + size r) n rs torn

      here : (las : List (Answer S.Finding)) → room_answers S room r ≡ las → walk S (plain S) room 0 space (r ∷ rs) torn ≡ before S (said_at 0 las) (rest (space - S.answer_size * length las))
      here las e =
          walk-cons S (plain S) room 0 space r rs torn fits
          ∙ ap₂ (λ (l : List (Answer S.Finding)) (x : Room S). before S (said_at 0 l) (walk S (plain S) x (0 + size r) (space - S.answer_size * length l) rs torn)) e next-same

      abbrev own : Answer S.Finding
      own = told (finding_of S anew (took k body))

      there : (n : ℕ) → S.answer_size ≤ n → walk S (plain S) anew 0 n (r ∷ rs) torn ≡ before S (said_at 0 (own ∷ [])) (rest (n - S.answer_size * 1))
      there n enough =
          walk-cons S (plain S) anew 0 n r rs torn (ap (λ (l : List (Answer S.Finding)). short_of S n (length l)) answers-anew ∙ none-short S n 1 enough (omega (arith, enough)))
          ∙ ap (λ (l : List (Answer S.Finding)). before S (said_at 0 l) (walk S (plain S) (room_next S anew r) (0 + size r) (n - S.answer_size * length l) rs torn)) answers-anew

      -- so many answers had space
      fitted : (las : List (Answer S.Finding)) → room_answers S room r ≡ las → (S.answer_size ≤ space) × (S.answer_size * length las ≤ space)
      fitted las e = short_none S space (length las) (ap (λ (l : List (Answer S.Finding)). short_of S space (length l)) (sym e) ∙ fits)

      by : (c : Bool) (o : Option S.Finding) → room_answers S room r ≡ answers_to S c o (finding_of S anew (took k body))
          → let i = cond c 0 (length (to_list S o)) in
          let w = walk S (plain S) anew 0 (space - S.answer_size * (length (to_list S o) - i)) (r ∷ rs) torn in
          walk S (plain S) room 0 space (r ∷ rs) torn
          ≡ record { answers = said_at 0 (to_list S o) ++ drop i w.answers; need = w.need; used = w.used; state = w.state }
      by true none e =
          here (own ∷ []) e
          ∙ sym (there space (fitted (own ∷ []) e).0)
          ∙ ap (λ (n : ℕ). walk S (plain S) anew 0 n (r ∷ rs) torn) (omega arith)
      by false none e =
          here (own ∷ []) e
          ∙ sym (there space (fitted (own ∷ []) e).0)
          ∙ ap (λ (n : ℕ). walk S (plain S) anew 0 n (r ∷ rs) torn) (omega arith)
      by true (some l) e =
          let n : ℕ = space - S.answer_size * 1 in
          let f = fitted (told l ∷ own ∷ []) e in
          here (told l ∷ own ∷ []) e
          ∙ ap (λ (m : ℕ). before S (said_at 0 (told l ∷ own ∷ [])) (rest m)) (omega arith)
          ∙ ap (λ (w : Walked S (Room S)). before S (said_at 0 (told l ∷ [])) w) (sym (there n (omega (arith, f.1))))
      by false (some l) e =
          here (told l ∷ []) e
          ∙ ap (λ (w : Walked S (Room S)). record { answers = said_at 0 (told l ∷ []) ++ drop 1 w.answers; need = w.need; used = w.used; state = w.state })
          (sym (there space (fitted (told l ∷ []) e).0) ∙ ap (λ (n : ℕ). walk S (plain S) anew 0 n (r ∷ rs) torn) (omega arith))

      pub as-begun : alike space rs torn
      as-begun = by (to_calibrate k) (released_by S room (took k body)) answers-here

  -- ---- at a place

  module _ (P : Place S) where
    -- what is behind, without its torn end, which it has not
    is_whole : past S P ≡ walk S (plain S) (room_before S P) 0 (length P.space) (cut S.kinds P.behind).records false
    is_whole =
        ap (λ (t : Bool). walk S (plain S) (room_before S P) 0 (length P.space) (cut S.kinds P.behind).records t)
        P.all_whole

    not_stopped : (walk S (plain S) (room_before S P) 0 (length P.space) (cut S.kinds P.behind).records false).need ≡ 0
    not_stopped = ap {A = Walked S (Room S)} (λ x. x.need) (sym is_whole) ∙ P.all-answered

    used : (past S P).used ≡ length P.behind + 0
    used =
        ap {A = Walked S (Room S)} (λ x. x.used) is_whole
        ∙ walk-used S (plain S) (room_before S P) 0 (length P.space) (cut S.kinds P.behind).records false not_stopped
        ∙ omega (arith, cut-sizes S.kinds (whole_of S.kinds P.behind P.all_whole))

    -- the run that passes a place, from what the rest of it comes to there
    pub passes : (q : List ℕ) → run_of S (plain S) (room_before S P) (P.behind ++ q) (length P.space)
        ≡ onward S (past S P) (further S (length P.behind) (run_of S (plain S) (room_at S P) q (space_left S P)))
    passes q =
        ap (λ (c : Cut). walk S (plain S) (room_before S P) 0 (length P.space) c.records c.torn)
        (cut-append S.kinds q (whole_of S.kinds P.behind P.all_whole))
        ∙ walk-append S (plain S) (room_before S P) 0 (length P.space) (cut S.kinds P.behind).records
        (cut S.kinds q).records (cut S.kinds q).torn not_stopped
        ∙ ap (λ (x : Walked S (Room S)). go_on S (plain S) x (length P.space) (cut S.kinds q).records (cut S.kinds q).torn) (sym is_whole)
        ∙ ap (λ (n : ℕ). onward S (past S P) (walk S (plain S) (room_at S P) n (space_left S P) (cut S.kinds q).records (cut S.kinds q).torn)) used
        ∙ ap (onward S (past S P)) (walk-later S (plain S) (length P.behind) (room_at S P) 0 (space_left S P) (cut S.kinds q).records (cut S.kinds q).torn)

  -- behind a reset there is a room just begun
  behind-reset : (P : Place S) (ps : List Record) (body : List ℕ) → (cut S.kinds P.behind).records ≡ ps ++ whole reset body ∷ []
      → (σ : S.Settings) × (room_at S P ≡ new_room S σ)
  behind-reset P ps body e =
      let is : past S P ≡ walk S (plain S) (room_before S P) 0 (length P.space) (ps ++ whole reset body ∷ []) false
      = is_whole P
      ∙ ap (λ (l : List Record). walk S (plain S) (room_before S P) 0 (length P.space) l false) e in
      let t = walk-last S (plain S) (room_before S P) 0 (length P.space) ps (whole reset body)
      (ap {A = Walked S (Room S)} (λ x. x.need) (sym is) ∙ P.all-answered) in
      (in_force S t.0, ap {A = Walked S (Room S)} (λ x. x.state) is ∙ t.1)

  pub empty-behind-a-reset : EmptyBehindAReset S
  empty-behind-a-reset P ps body e = ap {A = Room S} (λ x. x.L) (behind-reset P ps body e).1

  -- looks leave no trace
  unlooked : (room : Room S) (rs : List Record) → foldl (room_next S) room rs ≡ foldl (room_next S) room (without_looks S rs)
  unlooked room [] = refl
  unlooked room (whole (sample k) body ∷ rs) = unlooked (room_next S room (whole (sample k) body)) rs
  unlooked room (whole reset body ∷ rs) = unlooked (room_next S room (whole reset body)) rs
  unlooked room (whole (note n) body ∷ rs) = unlooked (room_next S room (whole (note n) body)) rs
  unlooked room (whole (look n) body ∷ rs) = unlooked room rs

  room-from : (P : Place S) → room_at S P ≡ foldl (room_next S) (room_before S P) (without_looks S (cut S.kinds P.behind).records)
  room-from P =
      ap {A = Walked S (Room S)} (λ x. x.state) (is_whole P)
      ∙ walk-state S (plain S) (room_before S P) 0 (length P.space) (cut S.kinds P.behind).records (not_stopped P)
      ∙ unlooked (room_before S P) (cut S.kinds P.behind).records

  pub looks-leave-no-trace : LooksLeaveNoTrace S
  looks-leave-no-trace P Q same equal = room-from P ∙ ap₂ (foldl (room_next S)) same equal ∙ sym (room-from Q)

  pub in-force-new : (σ : S.Settings) → in_force S (new_room S σ) ≡ σ
  unfolding detect
  in-force-new σ = refl

  module _ (laws : Laws S) where
    -- the rest of a run from a boundary is that of a room just begun, but for what counts as before it
    pub from-boundary : (P : Place S) (q : List ℕ) (b : Boundary S P q)
        → let w = run_of S (plain S) (new_room S (in_force S (room_at S P))) q (space_at_boundary S b) in
        run_of S (plain S) (room_at S P) q (space_left S P)
        ≡ record { answers = said_at 0 (answers_before S b) ++ drop (in_place_of S b) w.answers; need = w.need; used = w.used; state = w.state }
    from-boundary P q (behind-a-reset ps body e) =
        let t = behind-reset P ps body e in
        let same : room_at S P ≡ new_room S (in_force S (room_at S P))
        = t.1 ∙ ap (new_room S) (sym (in-force-new t.0)) ∙ ap (λ (x : Room S). new_room S (in_force S x)) (sym t.1) in
        ap₂ (λ (x : Room S) (n : ℕ). run_of S (plain S) x q n) same (omega arith)
    from-boundary P q (at-another-tag k body rest e fits ok other) =
        ap (λ (l : List Record). walk S (plain S) (room_at S P) 0 (space_left S P) l torn) e
        ∙ as-begun laws (room_at S P) k body ok other (space_left S P) rest torn fits
        ∙ sym (ap (λ (l : List Record).
        let w = walk S (plain S) (new_room S (in_force S (room_at S P))) 0 (space_left S P - S.answer_size * (length lines - instead)) l torn in
        record { answers = said_at 0 lines ++ drop instead w.answers; need = w.need; used = w.used; state = w.state }) e)
      where
        torn : Bool
        torn = (cut S.kinds q).torn

        lines : List (Answer S.Finding)
        lines = to_list S (released_by S (room_at S P) (took k body))

        instead : ℕ
        instead = cond (to_calibrate k) 0 (length lines)

    pub reached-at : (P : Place S) → Reached S (length P.memory) (room_at S P)
    reached-at P = reached-run S laws P.behind (length P.space) (reached_then S laws P.calls (reached-new S (length P.memory) P.given P.accepted))

    pub one-tag-since-a-boundary : OneTagSinceABoundary S
    one-tag-since-a-boundary P = let R = reached-at P in (R.tag, R.together)

    pub can-begin-anew : CanBeginAnew S
    can-begin-anew P = let B = (reached-at P).present in (B.given, B.set, begins-with S B)
