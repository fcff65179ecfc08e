-- A window has no order, of the room: presence and phase are fed the watched samples in order, and each tells the wander of the last W of them.
-- Assumes nothing.
use mathlib.Core.Path.{◌≡◌, refl, sym, ap, ap₂, subst, ◌∙◌}
use mathlib.Core.Bool.{Bool, true, false, cond}
use mathlib.Core.List.{List, [], ◌∷◌, map, foldl}
use Prim.Native.Nat.{ℕ, zero, suc, ◌-◌, ◌≤◌}
use native.Mathlib.Omega.{arith}
use lib.Dec.{eqb}
use lib.ListN.{length, length-map}
use borrow.Author.Tests.{eqb-true}
use Rattle.window.specs.Window.{Long, last_of}
use Rattle.window.specs.Order.{Reordered, HasNoOrder}
use Rattle.window.proofs.View.{long-drop}
use Rattle.window.proofs.Pushed.{last-map}
use Rattle.window.proofs.Order.{reordered-map}
use Rattle.csi.specs.Features.{features_of, normalised_of, used}
use Rattle.phase.specs.Phases.{frame_phases}
use Rattle.detector.specs.Detector.{Detector, new_detector, push_frame}
use Rattle.detector.specs.Order.{Push, frames_of, push_all}
use Rattle.detector.specs.declared.Limits.{Limits}
use Rattle.detector.proofs.Order.{tells-the-last-of-all}
use Rattle.presence.specs.Presence.{presence_kind}
use Rattle.presence.specs.Presence as presence
use Rattle.presence.proofs.Order as presence-order
use Rattle.phase_detector.specs.Phase.{phase_kind}
use Rattle.phase_detector.specs.Phase as phase
use Rattle.phase_detector.proofs.Order as phase-order
use Rattle.unit.specs.Records.{watched, calibrated, Event, took, noted}
use Rattle.unit.specs.Answers.{Answer, refused, restarted, told}
use Rattle.unit.specs.Sensing.{Now, after, detect, OfTag}
use Rattle.unit.specs.Room.{Room, now, left, joined, refusal_of}
use Rattle.unit.specs.Places.{Place, room_at}
use Rattle.unit.proofs.Reached.{Begins, now-joined, of-tag-split, reached-left, reached-sample}
use Rattle.unit.proofs.Boundaries.{reached-at}
use Rattle.room_sensing.specs.Settings.{settings_of}
use Rattle.room_sensing.specs.Answers.{Finding, learnt, sensed}
use Rattle.room_sensing.specs.Sensing.{room, Held, fresh, watch, calibrate, tag_of, time_of, iq_of, bytes_refusal, angles_used, presence_after, phase_after, watched_finds}
use Rattle.room_sensing.specs.Order.{watched_in, last_iq, room_with, FullLine, RoomHasNoOrder}
use Rattle.room_sensing.specs.declared.settings.Settings.{Settings}
use Rattle.room_sensing.specs.declared.answer.Watched.{Watched}
use Rattle.room_sensing.proofs.Samples.{entries_for, some-entries, length-amplitudes, length-angles}
use Rattle.room_sensing.proofs.Judged.{legal-ranges, ranged}
use Rattle.room_sensing.proofs.Sensible.{laws}

-- Of one detector: where it stands in what is held, and what a sample feeds it, by its tag and its I/Q.
module _ (get : Held → Detector) (wander_of : List (List ℕ) → ℕ) (lim : Settings → Limits) (entries : (tag : ℕ) → (iq : List ℕ) → List ℕ) where
  -- it is fed each watched sample, and no other; a new one is new
  record FedBy : Type 0 where
    watches : (σ : Settings) (h : Held) (body : List ℕ) → get (watch σ h body) ≡ push_frame wander_of (lim σ) σ.w (get h) (entries (tag_of body) (iq_of body)) (time_of body)
    calibrates : (h : Held) (body : List ℕ) → get (calibrate h body) ≡ get h
    new : get fresh ≡ new_detector
    long : (body : List ℕ) → bytes_refusal body ≡ 0 → length (entries (tag_of body) (iq_of body)) ≡ entries_for (tag_of body)

  abbrev push_of : Settings → List ℕ → Push
  push_of σ body = record { frame = entries (tag_of body) (iq_of body); lim = lim σ; now = time_of body }

  abbrev pushes_in : Settings → List Event → List Push
  pushes_in σ L = map (push_of σ) (watched_in L)

  module _ (F : FedBy) where
    fed-all : (σ : Settings) (h : Held) (L : List Event) → get (foldl (after room) (record { settings = σ; held = h }) L).held ≡ push_all wander_of σ.w (get h) (pushes_in σ L)
    unfolding push_all
    fed-all σ h [] = refl
    fed-all σ h (took watched body ∷ L) = fed-all σ (watch σ h body) L ∙ ap (λ (d : Detector). push_all wander_of σ.w d (pushes_in σ L)) (F.watches σ h body)
    fed-all σ h (took calibrated body ∷ L) = fed-all σ (calibrate h body) L ∙ ap (λ (d : Detector). push_all wander_of σ.w d (pushes_in σ L)) (F.calibrates h body)
    fed-all σ h (noted n body ∷ L) = fed-all σ h L

    module _ (σ : Settings) (t : ℕ) where
      frames-by : (L : List Event) → OfTag room σ t L → frames_of (pushes_in σ L) ≡ map (entries t) (map iq_of (watched_in L))
      frames-by [] o = refl
      frames-by (took watched body ∷ L) o = ap₂ (λ (f : List ℕ) (l : List (List ℕ)). f ∷ l) (ap (λ (u : ℕ). entries u (iq_of body)) o.0.1) (frames-by L o.1)
      frames-by (took calibrated body ∷ L) o = frames-by L o.1
      frames-by (noted n body ∷ L) o = frames-by L o.1

      frames-long : (L : List Event) → OfTag room σ t L → Long (entries_for t) (map (entries t) (map iq_of (watched_in L)))
      frames-long [] o i h = absurd (omega arith)
      frames-long (took watched body ∷ L) o zero h = ap (λ (u : ℕ). length (entries u (iq_of body))) (sym o.0.1) ∙ F.long body o.0.0 ∙ ap entries_for o.0.1
      frames-long (took watched body ∷ L) o (suc i) h = frames-long L o.1 i (omega arith)
      frames-long (took calibrated body ∷ L) o i h = frames-long L o.1 i h
      frames-long (noted n body ∷ L) o i h = frames-long L o.1 i h

      last-frames : (L : List Event) → last_of σ.w (map (entries t) (map iq_of (watched_in L))) ≡ map (entries t) (last_iq σ.w L)
      last-frames L = last-map σ.w (entries t) (map iq_of (watched_in L)) ∙ ap (map (entries t)) (last-map σ.w iq_of (watched_in L))

      last-long : (L : List Event) → OfTag room σ t L → Long (entries_for t) (map (entries t) (last_iq σ.w L))
      last-long L o = subst (Long (entries_for t)) (last-frames L) (long-drop (entries_for t) (length (map (entries t) (map iq_of (watched_in L))) - σ.w) (map (entries t) (map iq_of (watched_in L))) (frames-long L o))

      told-last : (L : List Event) → OfTag room σ t L → 1 ≤ σ.w → 1 ≤ entries_for t → σ.w ≤ length (watched_in L)
          → (get (detect room σ L).held).wander ≡ wander_of (map (entries t) (last_iq σ.w L))
      unfolding detect
      told-last L o one some enough =
          ap (λ (d : Detector). d.wander) (fed-all σ fresh L ∙ ap (λ (d : Detector). push_all wander_of σ.w d (pushes_in σ L)) F.new)
          ∙ tells-the-last-of-all wander_of σ.w (entries_for t) (pushes_in σ L) one some (omega (arith, length-map (watched_in L) (push_of σ)))
          (subst (Long (entries_for t)) (sym (frames-by L o)) (frames-long L o))
          ∙ ap wander_of (ap (last_of σ.w) (frames-by L o) ∙ last-frames L)

    -- two units
    same-wander : HasNoOrder wander_of → (σ τ : Settings) (t : ℕ) (L M : List Event) → OfTag room σ t L → OfTag room τ t M → 1 ≤ σ.w → 1 ≤ τ.w → 1 ≤ entries_for t
        → σ.w ≤ length (watched_in L) → τ.w ≤ length (watched_in M) → Reordered (last_iq σ.w L) (last_iq τ.w M)
        → (get (detect room σ L).held).wander ≡ (get (detect room τ M).held).wander
    same-wander no-order σ τ t L M of-L of-M one-L one-M some full-L full-M r =
        let last-L : List (List ℕ) = last_iq σ.w L in
        let last-M : List (List ℕ) = last_iq τ.w M in
        told-last σ t L of-L one-L some full-L
        ∙ no-order (entries_for t) (map (entries t) last-L) (map (entries t) last-M) (last-long σ t L of-L) (reordered-map (entries t) last-L last-M r)
        ∙ sym (told-last τ t M of-M one-M some full-M)

-- ---- both detectors

abbrev amplitudes_by : (tag : ℕ) → (iq : List ℕ) → List ℕ
amplitudes_by tag iq = used (normalised_of (features_of iq tag))

presence-fed : FedBy (λ h. h.presence) presence_kind.wander_of (λ σ. presence.limits_of σ.presence) amplitudes_by
unfolding presence_after
presence-fed = record { watches = λ σ h body. refl; calibrates = λ h body. refl; new = refl; long = length-amplitudes }

abbrev angles_by : (tag : ℕ) → (iq : List ℕ) → List ℕ
angles_by tag iq = angles_used (frame_phases iq tag)

phase-fed : FedBy (λ h. h.phase) phase_kind.wander_of (λ σ. phase.limits_of σ.phase) angles_by
unfolding phase_after
phase-fed = record { watches = λ σ h body. refl; calibrates = λ h body. refl; new = refl; long = length-angles }

-- ---- a place

abbrev is_line : List (Answer Finding) → Bool
is_line [] = false
is_line (refused n ∷ l) = false
is_line (restarted ∷ l) = false
is_line (told f ∷ l) = true

-- the line of these answers, or else this one
abbrev line_in : Watched → List (Answer Finding) → Watched
line_in w [] = w
line_in w (refused n ∷ l) = w
line_in w (restarted ∷ l) = w
line_in w (told (learnt frames mean) ∷ l) = w
line_in w (told (sensed line) ∷ l) = line

-- what a line at a full window is, in terms of the room then
record Behind (t : ℕ) (A : Room room) (line : Watched) : Type 0 where
  of-tag : OfTag room A.settings t A.L
  one : 1 ≤ A.settings.w
  some : 1 ≤ entries_for t
  permille : line.permille ≡ (detect room A.settings A.L).held.presence.wander
  ppm : line.ppm ≡ (detect room A.settings A.L).held.phase.wander

-- settings that a unit was begun with
some-window : (n : ℕ) (σ : Settings) → Begins room n σ → 1 ≤ σ.w
some-window n σ B = subst (λ (τ : Settings). 1 ≤ τ.w) B.set (ranged (settings_of B.given) (legal-ranges B.given B.in-range)).window.some

module _ (P : Place room) (body : List ℕ) (line : Watched) (F : FullLine P body line) where
  abbrev was : Room room
  was = left room (room_at room P) body

  abbrev found : Watched
  found = watched_finds (now room was).settings (now room was).held body

  abbrev number : ℕ
  number = refusal_of room (room_at room P) watched body

  accepted : eqb number 0 ≡ true
  accepted = go (eqb number 0) F.answered
    where
      go : (b : Bool) → cond b (told (sensed found) ∷ []) (refused number ∷ []) ≡ told (sensed line) ∷ [] → b ≡ true
      go true e = refl
      go false e = ap is_line e

  says : line ≡ found
  says = sym (ap (line_in line) (subst (λ (b : Bool). cond b (told (sensed found) ∷ []) (refused number ∷ []) ≡ told (sensed line) ∷ []) accepted F.answered))

  with_it : room_with P body ≡ joined room was (took watched body)
  with_it = ap (λ (b : Bool). cond b (joined room was (took watched body)) (room_at room P)) accepted

  behind-it : Behind (tag_of body) (joined room was (took watched body)) line
  unfolding presence_after phase_after
  behind-it =
      let reached = reached-at room laws P in
      let together = reached-sample room laws reached watched body (eqb-true number 0 accepted) in
      record {
        of-tag = together.of-tag;
        one = some-window (length P.memory) was.settings (reached-left room laws reached body).begun;
        some = some-entries body (of-tag-split room was.settings (tag_of body) was.L (took watched body) together.of-tag).1.0;
        permille = ap (λ (w : Watched). w.permille) says ∙ ap (λ (x : Now room). x.held.presence.wander) (sym (now-joined room was (took watched body)));
        ppm = ap (λ (w : Watched). w.ppm) says ∙ ap (λ (x : Now room). x.held.phase.wander) (sym (now-joined room was (took watched body)));
      }

  behind-line : Behind (tag_of body) (room_with P body) line
  behind-line = subst (λ (A : Room room). Behind (tag_of body) A line) (sym with_it) behind-it

pub no-order : RoomHasNoOrder
no-order P Q body body' line line' F G tags r =
    let A = room_with P body in
    let B = room_with Q body' in
    let x = behind-line P body line F in
    let y = subst (λ (t : ℕ). Behind t B line') (sym tags) (behind-line Q body' line' G) in
    let t = tag_of body in
    record {
      permille =
          x.permille
          ∙ same-wander (λ h. h.presence) _ _ amplitudes_by presence-fed (presence-order.no-order).windows A.settings B.settings t A.L B.L x.of-tag y.of-tag x.one y.one x.some F.full G.full r
          ∙ sym y.permille;
      ppm =
          x.ppm
          ∙ same-wander (λ h. h.phase) _ _ angles_by phase-fed (phase-order.no-order).windows A.settings B.settings t A.L B.L x.of-tag y.of-tag x.one y.one x.some F.full G.full r
          ∙ sym y.ppm;
    }
