-- Demand 3 for any calls that keep their promises: the statements are in specs/Demand3.
use mathlib.Core.Path.{◌≡◌, refl, sym, ap, ap₂, ◌∙◌}
use Prim.Native.Nat.{ℕ, ◌-◌, ◌*◌}
use native.Mathlib.Omega.{arith}
use mathlib.Core.Bool.{Bool, true, false, cond}
use mathlib.Core.Option.{Option, none, some}
use mathlib.Core.List.{List, [], ◌∷◌, ◌++◌}
use mathlib.Core.Logic.{◌⊎◌, inl, inr}
use lib.ListN.{length, drop}
use lib.Dec.{eqb}
use Rattle.unit.specs.Records.{Event, took, noted, Record, whole, sample, reset, note, look, cut}
use Rattle.unit.specs.Answers.{Answer, said_at}
use Rattle.unit.specs.Sensing.{Sensing, to_calibrate, Fits, OfTag, Laws, WarmUp, Warms}
use Rattle.unit.specs.Walk.{Walked, walk, before, run_of, six_of, returned, space_after}
use Rattle.unit.specs.Room.{Room, new_room, now, in_force, left, finding_of, released_by, room_answers, plain}
use Rattle.unit.specs.Calls.{Return, begun, ran, Call, begin, run, room_return, room_after, returns, room_then}
use Rattle.unit.specs.Promises.{Memory, NewMemory, Keeps}
use Rattle.unit.specs.Demand3
use Rattle.unit.specs.Places.{plainly, room_behind, Place, earlier, room_before, room_at, space_left, Boundary, behind-a-reset, at-another-tag, to_list, answers_before, in_place_of, space_at_boundary, goes_on}
use Rattle.unit.specs.Demand3.{Life, Passing}
use Rattle.unit.proofs.Walking.{behind, walk-cons}
use Rattle.unit.proofs.Reached.{Reached, of-tag-split, reached-new, reached-left, reached-sample}
use Rattle.unit.proofs.Executions.{as-the-plain-room}
use Rattle.unit.proofs.Boundaries.{passes, from-boundary, empty-behind-a-reset, reached-at, one-tag-since-a-boundary, can-begin-anew, looks-leave-no-trace}

module _ (S : Sensing) where
  returns-append : (n : ℕ) (room : Room S) (cs ds : List (Call S))
      → returns S n room (cs ++ ds) ≡ returns S n room cs ++ returns S n (room_then S n room cs) ds
  unfolding returns room_then
  returns-append n room [] ds = refl
  returns-append n room (c ∷ cs) ds = ap {B = List (Return S)} (λ l. room_return S n room c ∷ l) (returns-append n (room_after S n room c) cs ds)

  returns-cons : (n : ℕ) (room : Room S) (c : Call S) (cs : List (Call S)) → returns S n room (c ∷ cs) ≡ room_return S n room c ∷ returns S n (room_after S n room c) cs
  unfolding returns
  returns-cons n room c cs = refl

  -- units with equal settings have memories of one length
  same_length : {n k : ℕ} {x y : Room S} → Reached S n x → Reached S k y → x.settings ≡ y.settings → n ≡ k
  same_length R Q e = R.begun.long ∙ ap S.memory_size e ∙ sym Q.begun.long

  module _ (laws : Laws S) (M : Memory S) (new-memory : NewMemory S M) (Called : List ℕ → Call S → Return S → List ℕ → Type 0) (keeps : Keeps S M Called) where
    plain-room : Demand3.AsThePlainRoom S Called
    plain-room = as-the-plain-room S laws M new-memory Called keeps

    -- what a life gives that passes a place, from what the rest of its run comes to there
    run-goes_on : (P : Place S) (q : List ℕ) (ds : List (Call S)) (rs : List (Return S)) (there : Walked S (Room S)) → Passing S Called P q ds rs
        → run_of S (plain S) (room_at S P) q (space_left S P) ≡ there
        → rs ≡ begun 0 ∷ earlier S P ++ goes_on S P there.answers there.need there.used ∷ returns S (length P.memory) there.state ds
    run-goes_on P q ds rs there life is =
        plain-room P.memory P.given (P.calls ++ run (P.behind ++ q) P.space ∷ ds) rs life
        ∙ ap {A = List (Return S)} (λ l. begun 0 ∷ l)
        (returns-append (length P.memory) (new_room S (S.settings P.given)) P.calls (run (P.behind ++ q) P.space ∷ ds)
        ∙ ap (λ (l : List (Return S)). earlier S P ++ l)
        (returns-cons (length P.memory) (room_before S P) (run (P.behind ++ q) P.space) ds
        ∙ ap (λ (x : Walked S (Room S)). ran (returned S x) (space_after S x P.space) ∷ returns S (length P.memory) x.state ds) (passes S P q)
        ∙ ap (λ (x : Walked S (Room S)). goes_on S P x.answers x.need x.used ∷ returns S (length P.memory) x.state ds) is))

    pub from-the-samples-alone : Demand3.FromTheSamplesAlone S Called
    from-the-samples-alone P Q q ds rs qs one other same equal =
        record {
          answers = there.answers;
          need = there.need;
          used = there.used;
          rest = returns S (length P.memory) there.state ds;
          one = run-goes_on P q ds rs there one refl;
          other = run-goes_on Q q ds qs there other (sym (ap₂ (λ (x : Room S) (k : ℕ). run_of S (plain S) x q k) same equal))
              ∙ ap (λ (k : ℕ). begun 0 ∷ earlier S Q ++ goes_on S Q there.answers there.need there.used ∷ returns S k there.state ds) long;
        }
      where
        there : Walked S (Room S)
        there = run_of S (plain S) (room_at S P) q (space_left S P)

        long : length Q.memory ≡ length P.memory
        long = same_length (reached-at S laws Q) (reached-at S laws P) (ap {A = Room S} (λ x. x.settings) (sym same))

    -- a life just begun that starts with a run
    just-begun : (n : List ℕ) (h : S.Given) (q space : List ℕ) (ds : List (Call S)) (qs : List (Return S)) → Life S Called n h (run q space ∷ ds) qs
        → (there : Walked S (Room S)) → run_of S (plain S) (new_room S (S.settings h)) q (length space) ≡ there
        → qs ≡ begun 0 ∷ ran (returned S there) (space_after S there space) ∷ returns S (length n) there.state ds
    just-begun n h q space ds qs life there is =
        plain-room n h (run q space ∷ ds) qs life
        ∙ ap {A = List (Return S)} (λ l. begun 0 ∷ l) (returns-cons (length n) (new_room S (S.settings h)) (run q space) ds)
        ∙ ap (λ (x : Walked S (Room S)). begun 0 ∷ ran (returned S x) (space_after S x space) ∷ returns S (length n) x.state ds) is

    pub alike-from-a-boundary : Demand3.AlikeFromABoundary S Called
    alike-from-a-boundary P q ds rs n h space qs life b anew settings equal =
        record {
          answers = there.answers;
          need = there.need;
          used = there.used;
          rest = returns S (length P.memory) there.state ds;
          with-a-past = run-goes_on P q ds rs _ life (from-boundary S laws P q b);
          just-begun = just-begun n h q space ds qs anew there
              (ap₂ (λ (σ : S.Settings) (k : ℕ). run_of S (plain S) (new_room S σ) q k) settings equal)
              ∙ ap (λ (k : ℕ). begun 0 ∷ ran (returned S there) (space_after S there space) ∷ returns S k there.state ds) long;
        }
      where
        there : Walked S (Room S)
        there = run_of S (plain S) (new_room S (in_force S (room_at S P))) q (space_at_boundary S b)

        long : length n ≡ length P.memory
        long = (reached-new S (length n) h anew.accepted).begun.long ∙ ap S.memory_size settings ∙ sym (reached-at S laws P).present.long

    -- where nothing is held back
    module _ (nothing-held : (σ : S.Settings) (h : S.Held) (e : Event) → S.releases σ h e ≡ none) where
      none_before : {P : Place S} {q : List ℕ} (b : Boundary S P q) → answers_before S b ≡ []
      none_before (behind-a-reset ps body e) = refl
      none_before {P = P} (at-another-tag k body rest e fits ok other) = ap (to_list S) (nothing-held (now S (room_at S P)).settings (now S (room_at S P)).held (took k body))

      in-place-of-none : {P : Place S} {q : List ℕ} (b : Boundary S P q) → in_place_of S b ≡ 0
      in-place-of-none (behind-a-reset ps body e) = refl
      in-place-of-none {P = P} (at-another-tag k body rest e fits ok other) =
          ap (λ (o : Option S.Finding). cond (to_calibrate k) 0 (length (to_list S o))) (nothing-held (now S (room_at S P)).settings (now S (room_at S P)).held (took k body)) ∙ either (to_calibrate k)
        where
          either : (c : Bool) → ◌≡◌ {A = ℕ} (cond c 0 0) 0
          either true = refl
          either false = refl

      same-space : {P : Place S} {q : List ℕ} (b : Boundary S P q) → space_left S P ≡ space_at_boundary S b
      same-space {P = P} b =
          let e : space_left S P ≡ space_left S P - S.answer_size * 0 = omega arith in
          e ∙ ap₂ (λ (l : List (Answer S.Finding)) (k : ℕ). space_left S P - S.answer_size * (length l - k)) (sym (none_before b)) (sym (in-place-of-none b))

      pub alike-plainly : Demand3.AlikePlainly S Called
      alike-plainly P q ds rs n h space qs life b anew settings equal =
          let A = alike-from-a-boundary P q ds rs n h space qs life b anew settings (equal ∙ same-space b) in
          record {
            answers = A.answers;
            need = A.need;
            used = A.used;
            rest = A.rest;
            with-a-past = A.with-a-past
                ∙ ap₂ (λ (l : List (Answer S.Finding)) (k : ℕ). begun 0 ∷ earlier S P ++ goes_on S P (said_at 0 l ++ drop k A.answers) A.need A.used ∷ A.rest)
                (none_before b) (in-place-of-none b);
            just-begun = A.just-begun;
          }

    pub alike-from-a-beginning : Demand3.AlikeFromABeginning S Called
    alike-from-a-beginning m g g' cs ds rs n h qs life ok anew settings =
        plain-room m g (cs ++ begin g' ∷ ds) rs life
        ∙ ap {A = List (Return S)} (λ l. begun 0 ∷ l)
        (returns-append (length m) (new_room S (S.settings g)) cs (begin g' ∷ ds)
        ∙ ap (λ (l : List (Return S)). plainly S m g cs ++ l)
        (returns-cons (length m) (room_behind S m g cs) (begin g') ds
        ∙ ap (λ (k : ℕ). begun k ∷ returns S (length m) (cond (eqb k 0) (new_room S (S.settings g')) (room_behind S m g cs)) ds) ok
        ∙ ap₂ (λ (k : ℕ) (σ : S.Settings). begun 0 ∷ returns S k (new_room S σ) ds) long (sym settings)
        ∙ sym (plain-room n h ds qs anew)))
      where
        long : length m ≡ length n
        long = same_length (reached-new S (length m) g' ok) (reached-new S (length n) h anew.accepted) (sym settings)

    six-or-0 : (need : ℕ) → (six_of S need ≡ 0) ⊎ (six_of S need ≡ 6)
    six-or-0 need = go (eqb need 0)
      where
        go : (b : Bool) → (◌≡◌ {A = ℕ} (cond b 0 6) 0) ⊎ (◌≡◌ {A = ℕ} (cond b 0 6) 6)
        go true = inl refl
        go false = inr refl

    pub never-refused-by-2 : Demand3.NeverRefusedBy2 S Called
    never-refused-by-2 m g cs ds records space rs life = (
      returned S there,
      space_after S there space,
      returns S (length m) there.state ds,
      plain-room m g (cs ++ run records space ∷ ds) rs life
          ∙ ap {A = List (Return S)} (λ l. begun 0 ∷ l)
          (returns-append (length m) (new_room S (S.settings g)) cs (run records space ∷ ds)
          ∙ ap (λ (l : List (Return S)). plainly S m g cs ++ l) (returns-cons (length m) (room_behind S m g cs) (run records space) ds)),
      six-or-0 there.need,
    )
      where
        there : Walked S (Room S)
        there = run_of S (plain S) (room_behind S m g cs) records (length space)

    -- the watch lines that a record is answered say Warming just if fewer than W are fed
    module _ (W : WarmUp S) (warms : Warms S W) {n : ℕ} where
      own-warm : (room : Room S) (R : Reached S n room) (t : ℕ) (e : Event) → OfTag S room.settings t room.L → Fits S room.settings t e
          → Demand3.Says S Called W room (W.fed_in (room.L ++ e ∷ [])) (finding_of S room e)
      own-warm room R t e = rw (← R.begun.set) (warms.own R.begun.given R.begun.in-range t room.L e)

      released-by : (room : Room S) (R : Reached S n room) (e : Event) → OfTag S room.settings R.tag room.L → (f : S.Finding)
          → released_by S room e ≡ some f → Demand3.Says S Called W room (W.fed_in (room.L ++ e ∷ [])) f
      released-by room R e = rw (← R.begun.set) (λ T f h _. warms.released R.begun.given R.begun.in-range R.tag room.L e f T h)

      released-warm : (room : Room S) (R : Reached S n room) (e : Event) (f : S.Finding) → released_by S room e ≡ some f
          → Demand3.Says S Called W room (W.fed_in (room.L ++ e ∷ [])) f
      released-warm room R e = released-by room R e R.together.of-tag

      lines-warm : (room : Room S) → Reached S n room → (r : Record) → Demand3.LinesWarm S Called W room r
      lines-warm room R (whole (sample k) body) = λ ok.
          let T = of-tag-split S (left S room body).settings (S.tag body) (left S room body).L (took k body) (reached-sample S laws R k body ok).of-tag in
          (released-warm room R (took k body), own-warm (left S room body) (reached-left S laws R body) (S.tag body) (took k body) T.0 T.1)
      lines-warm room R (whole reset body) = tt
      lines-warm room R (whole (note m) body) = (released-warm room R (noted m body), own-warm room R R.tag (noted m body) R.together.of-tag tt)
      lines-warm room R (whole (look m) body) = own-warm room R R.tag (noted m body) R.together.of-tag tt

    pub warms-until-full : (W : WarmUp S) → Warms S W → Demand3.WarmsUntilFull S Called W
    warms-until-full W warms P q ds rs r behind-it life e fits =
        record {
          more = then.answers;
          need = then.need;
          used = then.used;
          rest = returns S (length P.memory) then.state ds;
          gives = run-goes_on P q ds rs (before S (said_at 0 (room_answers S (room_at S P) r)) then) life
              (ap (λ (l : List Record). walk S (plain S) (room_at S P) 0 (space_left S P) l torn) e
              ∙ walk-cons S (plain S) (room_at S P) 0 (space_left S P) r behind-it torn fits);
          warming = lines-warm W warms (room_at S P) (reached-at S laws P) r;
        }
      where
        torn : Bool
        torn = (cut S.kinds q).torn

        then : Walked S (Room S)
        then = behind S (plain S) (room_at S P) 0 (space_left S P) r behind-it torn

    -- the whole demand
    pub demand3 : (W : WarmUp S) → Warms S W → Demand3.Demand3 S Called W
    demand3 W warms =
        record {
          as-the-plain-room = plain-room;
          from-the-samples-alone = from-the-samples-alone;
          alike-from-a-boundary = alike-from-a-boundary;
          alike-from-a-beginning = alike-from-a-beginning;
          can-begin-anew = can-begin-anew S laws;
          empty-behind-a-reset = empty-behind-a-reset S;
          one-tag-since-a-boundary = one-tag-since-a-boundary S laws;
          looks-leave-no-trace = looks-leave-no-trace S;
          never-refused-by-2 = never-refused-by-2;
          warms-until-full = warms-until-full W warms;
        }
