-- The unit and the plain room are alike: `meaning room` is what a memory means whose unit has accepted just the room's L since the last boundary.
use mathlib.Core.Path.{◌≡◌, refl, sym, ap, ap₂, ◌∙◌}
use Prim.Native.Nat.{ℕ}
use native.Mathlib.Omega.{arith}
use mathlib.Core.Bool.{Bool, true, false, cond, not, ◌&&◌}
use mathlib.Core.Option.{Option, none, some}
use mathlib.Core.List.{List, [], ◌∷◌, ◌++◌, foldl}
use lib.Dec.{leb, eqb}
use borrow.Author.Tests.{eqb-true, lt-leb, eq-eqb, ne_eqb}
use Rattle.unit.specs.Records.{Mark, watched, calibrated, Event, took, noted, Record, whole, sample, reset, note, look, cut}
use Rattle.unit.specs.Answers.{refused}
use Rattle.unit.specs.Sensing.{Sensing, Now, after, to_calibrate, counted, calibrated_in, detect, answers_to, Laws}
use Rattle.unit.specs.Walk.{run_of}
use Rattle.unit.specs.Unit.{View, new_view, differs, kept, full_after, refusal_in, fed_as, finds, unit_answers, unit_next, unit, fed_note}
use Rattle.unit.specs.Room.{Room, new_room, now, in_force, same_tag, other_tag, is_full, refusal_of, left, joined, released_by, room_answers, room_next, plain, with_note}
use Rattle.num.proofs.Logic.{never}
use Rattle.unit.proofs.Walking.{leaving, walks-alike}
use Rattle.unit.proofs.Reached.{Reached, reached-next, tag_in, Tagging, none_yet, all_of, tagging, now-joined}

module _ (S : Sensing) where
  abbrev pub meaning : Room S → View S
  meaning room = record { settings = in_force S room; tag = tag_in S room.L; held = (now S room).held }

  pub meaning-new : (σ : S.Settings) → meaning (new_room S σ) ≡ new_view S σ
  unfolding detect
  meaning-new σ = refl

  -- fed an event, the unit means the room that the event has joined
  pub fed-as : (room : Room S) (t : ℕ) (e : Event) → tag_in S (room.L ++ e ∷ []) ≡ t → fed_as S (meaning room) t e ≡ meaning (joined S room e)
  fed-as room t e h i = record { settings = (sym (now-joined S room e) i).settings; tag = sym h i; held = (sym (now-joined S room e) i).held }

  tag-noted : (L : List Event) (n : ℕ) (body : List ℕ) → tag_in S (L ++ noted n body ∷ []) ≡ tag_in S L
  tag-noted [] n body = refl
  tag-noted (took k b ∷ L) n body = refl
  tag-noted (noted m b ∷ L) n body = tag-noted L n body

  pub noted-as : (room : Room S) (n : ℕ) (body : List ℕ) → fed_as S (meaning room) (tag_in S room.L) (noted n body) ≡ meaning (joined S room (noted n body))
  noted-as room n body = fed-as room (tag_in S room.L) (noted n body) (tag-noted room.L n body)

  pub fed-note : (room : Room S) (o : Option ℕ) → fed_note S (meaning room) o ≡ meaning (with_note S room o)
  fed-note room none = refl
  fed-note room (some n) = noted-as room n []

  tag-first : (L : List Event) (k : Mark) (body : List ℕ) → tag_in S L ≡ 0 → ((b : List ℕ) → same_tag S L b ≡ false) → tag_in S (L ++ took k body ∷ []) ≡ S.tag body
  tag-first [] k body e h = refl
  tag-first (took m b ∷ L) k body e h = let z : eqb (S.tag b) (S.tag b) ≡ false = h b in absurd (not_itself z)
    where
      not_itself : eqb (S.tag b) (S.tag b) ≡ false → ⊥
      not_itself z = let y : true ≡ false = sym (eq-eqb (S.tag b) (S.tag b) refl) ∙ z in never (sym y)
  tag-first (noted n b ∷ L) k body e h = tag-first L k body e h

  tag-more : (L : List Event) (k : Mark) (body : List ℕ) → (tag_in S L ≡ 0 → ⊥) → tag_in S (L ++ took k body ∷ []) ≡ tag_in S L
  tag-more [] k body h = absurd (h refl)
  tag-more (took m b ∷ L) k body h = refl
  tag-more (noted n b ∷ L) k body h = tag-more L k body h

  -- the frames that the baseline counts are the calibrated samples
  module _ (laws : Laws S) where
    frames-from : (x : Now S) (n : ℕ) (L : List Event) → S.frames x.held ≡ n → S.frames (foldl (after S) x L).held ≡ foldl (counted S) n L
    frames-from x n [] h = h
    frames-from x n (e ∷ L) h =
        frames-from (after S x e) (counted S n e) L (laws.frames-fed x.settings x.held e ∙ ap (λ (k : ℕ). counted S k e) h)

    pub frames-of : (room : Room S) → S.frames (now S room).held ≡ calibrated_in S room.L
    unfolding detect
    frames-of room = frames-from _ 0 room.L (laws.no_frames room.settings)

    module _ {n : ℕ} (room : Room S) (R : Reached S n room) where
      -- a sample's tag differs for the unit as it does for the room
      differs-as : (body : List ℕ) → differs S (tag_in S room.L) body ≡ other_tag S room.L body
      differs-as body = go (tagging S laws room.settings R.tag room.L R.together.of-tag)
        where
          go : Tagging S room.settings R.tag room.L → differs S (tag_in S room.L) body ≡ other_tag S room.L body
          go (none_yet x y z w o) = ap (λ (t : ℕ). differs S t body) z ∙ sym (y body)
          go (all_of x y z w) =
              ap (λ (t : ℕ). differs S t body) z ∙ ap (λ (b : Bool). cond b false (not (eqb (S.tag body) R.tag))) (ne_eqb R.tag 0 w) ∙ sym (y body)

      left-means : (b : Bool) → cond b (new_view S (in_force S room)) (meaning room) ≡ meaning (cond b (new_room S (in_force S room)) room)
      left-means true = sym (meaning-new (in_force S room))
      left-means false = refl

      pub kept-as : (body : List ℕ) → kept S (meaning room) body ≡ meaning (left S room body)
      kept-as body =
          ap (λ (b : Bool). cond b (new_view S (in_force S room)) (meaning room)) (differs-as body) ∙ left-means (other_tag S room.L body)

      tag-joined : (k : Mark) (body : List ℕ) → tag_in S ((left S room body).L ++ took k body ∷ []) ≡ S.tag body
      tag-joined k body = go (tagging S laws room.settings R.tag room.L R.together.of-tag)
        where
          go : Tagging S room.settings R.tag room.L → tag_in S ((left S room body).L ++ took k body ∷ []) ≡ S.tag body
          go (none_yet x y z w o) = rw (y body) (tag-first room.L k body z x)
          go (all_of x y z w) = by (eqb (S.tag body) R.tag) refl
            where
              by : (c : Bool) → eqb (S.tag body) R.tag ≡ c → tag_in S ((left S room body).L ++ took k body ∷ []) ≡ S.tag body
              by true e = rw (y body ∙ ap not e) (tag-more room.L k body (λ q. w (sym z ∙ q)) ∙ z ∙ sym (eqb-true _ _ e))
              by false e = rw (y body ∙ ap not e) refl

      -- 8, judged by the frames after any boundary, is 8 judged by L
      full-as : (k : Mark) (body : List ℕ) → full_after S k (kept S (meaning room) body).held ≡ cond (is_full S room.L k body) 8 0
      full-as k body = ap {A = View S} (λ v. full_after S k v.held) (kept-as body) ∙ go k
        where
          few : (x : Room S) → calibrated_in S x.L ≡ 0 → ◌≡◌ {A = ℕ} (cond (leb S.limit (S.frames (now S x).held)) 8 0) 0
          few x e = ap (λ (b : Bool). cond b 8 0) (lt-leb S.limit (S.frames (now S x).held) (omega (arith, frames-of x, e, laws.some-may-calibrate)))

          Goal : (other same : Bool) → Type 0
          Goal other same =
              ◌≡◌ {A = ℕ} (cond (leb S.limit (S.frames (now S (cond other (new_room S (in_force S room)) room)).held)) 8 0)
              (cond (same && leb S.limit (calibrated_in S room.L)) 8 0)

          by : Tagging S room.settings R.tag room.L → Goal (other_tag S room.L body) (same_tag S room.L body)
          by (none_yet x y z w o) = rw (x body) (rw (y body) (few room w))
          by (all_of x y z w) = rw (x body) (rw (y body) (which (eqb (S.tag body) R.tag)))
            where
              which : (c : Bool) → Goal (not c) c
              which true = ap (λ (m : ℕ). cond (leb S.limit m) 8 0) (frames-of room)
              which false = few (new_room S (in_force S room)) refl

          go : (m : Mark) → full_after S m (now S (left S room body)).held ≡ cond (is_full S room.L m body) 8 0
          go watched = refl
          go calibrated = by (tagging S laws room.settings R.tag room.L R.together.of-tag)

      refusal-as : (k : Mark) (body : List ℕ) → refusal_in S (meaning room) k body ≡ refusal_of S room k body
      refusal-as k body =
          ap (λ (m : ℕ). cond (eqb (S.bytes_refusal (in_force S room) body) 0) m (S.bytes_refusal (in_force S room) body)) (full-as k body)

      -- one record
      same-answers : (r : Record) → unit_answers S (meaning room) r ≡ room_answers S room r
      same-answers (whole (sample k) body) =
          ap₂ (λ (m : ℕ) (v : View S). cond (eqb m 0) (answers_to S (to_calibrate k) (released_by S room (took k body)) (finds S v (took k body))) (refused m ∷ []))
          (refusal-as k body) (kept-as body)
      same-answers (whole reset body) = refl
      same-answers (whole (note m) body) = refl
      same-answers (whole (look m) body) = refl

      next-either : (k : Mark) (body : List ℕ) (b : Bool)
          → cond b (fed_as S (kept S (meaning room) body) (S.tag body) (took k body)) (meaning room) ≡ meaning (cond b (joined S (left S room body) (took k body)) room)
      next-either k body true =
          ap (λ (v : View S). fed_as S v (S.tag body) (took k body)) (kept-as body) ∙ fed-as (left S room body) (S.tag body) (took k body) (tag-joined k body)
      next-either k body false = refl

      same_next : (r : Record) → unit_next S (meaning room) r ≡ meaning (room_next S room r)
      same_next (whole (sample k) body) =
          ap (λ (m : ℕ). cond (eqb m 0) (fed_as S (kept S (meaning room) body) (S.tag body) (took k body)) (meaning room)) (refusal-as k body)
          ∙ next-either k body (eqb (refusal_of S room k body) 0)
      same_next (whole reset body) = sym (meaning-new (in_force S room))
      same_next (whole (note m) body) = noted-as room m body
      same_next (whole (look m) body) = refl

    -- a run
    pub run-alike : {n : ℕ} {room : Room S} (bytes : List ℕ) (space : ℕ) → Reached S n room
        → run_of S (unit S) (meaning room) bytes space ≡ leaving S meaning (run_of S (plain S) room bytes space)
    run-alike {n} {room} bytes space R =
        walks-alike S (unit S) (plain S) meaning (Reached S n) (λ y r I. same-answers y I r) (λ y r I. same_next y I r) (λ y r. reached-next S laws r)
        room 0 space (cut S.kinds bytes).records (cut S.kinds bytes).torn R
