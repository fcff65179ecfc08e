-- The whole header: what is stored is loaded, and storing what was loaded gives the same bytes. Assumes nothing.
--
--     stored_loaded                   the state whose bytes stand behind the settings is what is loaded
--     stored_same                     the bytes of what is loaded are those that stand there, where both flags are 0 or 1
--     flags-stored                    they are, in what was stored
--     kept-settings, kept-rest        before and behind a state's bytes stands what was put there
--     settings-stored, rest-stored    there `store` leaves all as it was
use Prim.Native.Nat.{ℕ, ◌+◌, ◌*◌, ◌^◌, ◌≤◌, ◌<◌}
use mathlib.Core.Path.{◌≡◌, refl, sym, ap, ◌∙◌}
use mathlib.Core.Bool.{Bool, true, false, ◌&&◌}
use mathlib.Core.List.{List, [], ◌∷◌, ◌++◌, map, append_assoc}
use native.Mathlib.Omega.{arith}
use lib.Dec.{leb}
use lib.IntN.{pos}
use lib.ListN.{length, get_or, take, drop, length-append, length-drop, take-append-drop}
use lib.Seq.{take_at, drop_at, get_or-drop, length-take-le}
use mir.Syntax.{w32}
use mir.Val.{SFits}
use Rattle.num.specs.Words.{words_in, le_all}
use Rattle.num.specs.Wrap.{signed32, bits32}
use Rattle.num.proofs.Fields.{here, behind, words_long, bits-long, words-here, signed-here, byte-same, words_same, signed_same}
use Rattle.num.proofs.Logic.{both}
use Rattle.window.specs.Window.{columns}
use Rattle.room_memory.specs.Fields.{flag, detector_len, progress_len, baseline_len, fall_len, present_at, detector_in, detector_bytes, progress_in, progress_bytes, baseline_in, baseline_bytes, fall_in, fall_bytes}
use Rattle.room_memory.specs.Header.{settings_len, tag_at, presence_at, phase_at, breathing_at, heart_at, baseline_at, fall_at, sum_at, sumsq_at, cos_at, sin_at, breathing_acc_at, heart_acc_at, header_len, state_len, state_at, small_bytes, column_bytes, state_bytes, Small, flags}
use Rattle.room_memory.specs.declared.RoomState.{RoomState}
use Rattle.room_memory.proofs.Back.{detector-back, progress-back, baseline-back, fall-back}
use Rattle.room_memory.proofs.Bytes.{detector-same, progress-same, baseline-same, fall-same}

-- ---- what the types of a state's fields give: a number a column, each within its bits
pub record Full (s : RoomState) : Type 0 where
  pub sum : length s.presence.sums.sum ≡ columns
  pub sumsq : length s.presence.sums.sumsq ≡ columns
  pub cos : length s.phase.sums.cos ≡ columns
  pub sin : length s.phase.sums.sin ≡ columns
  pub breathing : length s.breathing.acc ≡ columns
  pub heart : length s.heart.acc ≡ columns

pub record Ranged (s : RoomState) : Type 0 where
  pub presence-wander : s.presence.state.wander < 4294967296
  pub presence-motion : s.presence.state.last_motion < 2 ^ 64
  pub phase-wander : s.phase.state.wander < 4294967296
  pub phase-motion : s.phase.state.last_motion < 2 ^ 64
  pub baseline-sum : s.baseline.sum < 2 ^ 64
  pub peak : s.fall.peak < 65536
  pub a : s.fall.a < 2 ^ 64
  pub b : s.fall.b < 2 ^ 64
  pub sum : (j : ℕ) → get_or s.presence.sums.sum j 0 < 2 ^ 32
  pub sumsq : (j : ℕ) → get_or s.presence.sums.sumsq j 0 < 2 ^ 64
  pub cos : (j : ℕ) → SFits w32 (get_or s.phase.sums.cos j (pos 0))
  pub sin : (j : ℕ) → SFits w32 (get_or s.phase.sums.sin j (pos 0))
  pub breathing : (j : ℕ) → get_or s.breathing.acc j 0 < 2 ^ 32
  pub heart : (j : ℕ) → get_or s.heart.acc j 0 < 2 ^ 32

-- how many bytes a state is: with the settings, the header
pub state-long : (s : RoomState) → Full s → length (state_bytes s) ≡ state_len
unfolding state_bytes
state-long s f =
    let l₁ = words_long 4 columns s.presence.sums.sum f.sum in
    let l₂ = words_long 8 columns s.presence.sums.sumsq f.sumsq in
    let l₃ = bits-long columns s.phase.sums.cos f.cos in
    let l₄ = bits-long columns s.phase.sums.sin f.sin in
    let l₅ = words_long 4 columns s.breathing.acc f.breathing in
    let l₆ = words_long 4 columns s.heart.acc f.heart in
    length-append (small_bytes s) (column_bytes s.presence.sums s.phase.sums s.breathing.acc s.heart.acc) ∙ simp length-append (rw (l₁, l₂, l₃, l₄, l₅, l₆) refl)

-- the parts of what stands behind the settings
module _ (a b c d e f rest : List ℕ) where
  flat : (a ++ (b ++ (c ++ (d ++ (e ++ f))))) ++ rest ≡ a ++ (b ++ (c ++ (d ++ (e ++ (f ++ rest)))))
  flat = simp append_assoc

-- ---- what is stored is loaded
module _ (m rest : List ℕ) (s : RoomState) (room : header_len ≤ length m) (stands : drop settings_len m ≡ state_bytes s ++ rest) (full : Full s) where
  abbrev heart_bytes : List ℕ
  heart_bytes = le_all 4 s.heart.acc ++ rest

  abbrev breathing_bytes : List ℕ
  breathing_bytes = le_all 4 s.breathing.acc ++ heart_bytes

  abbrev sin_bytes : List ℕ
  sin_bytes = le_all 4 (map bits32 s.phase.sums.sin) ++ breathing_bytes

  abbrev cos_bytes : List ℕ
  cos_bytes = le_all 4 (map bits32 s.phase.sums.cos) ++ sin_bytes

  abbrev sumsq_bytes : List ℕ
  sumsq_bytes = le_all 8 s.presence.sums.sumsq ++ cos_bytes

  abbrev sum_bytes : List ℕ
  sum_bytes = le_all 4 s.presence.sums.sum ++ sumsq_bytes

  abbrev fall_on : List ℕ
  fall_on = fall_bytes s.fall ++ sum_bytes

  abbrev baseline_on : List ℕ
  baseline_on = baseline_bytes s.baseline ++ fall_on

  abbrev heart_on : List ℕ
  heart_on = progress_bytes s.heart.progress ++ baseline_on

  abbrev breathing_on : List ℕ
  breathing_on = progress_bytes s.breathing.progress ++ heart_on

  abbrev phase_on : List ℕ
  phase_on = detector_bytes s.phase.state ++ breathing_on

  abbrev presence_on : List ℕ
  presence_on = detector_bytes s.presence.state ++ phase_on

  at_tag : drop settings_len m ≡ s.tag ∷ presence_on
  unfolding state_bytes
  at_tag =
      stands
      ∙ append_assoc (small_bytes s) (column_bytes s.presence.sums s.phase.sums s.breathing.acc s.heart.acc) rest
      ∙ ap (λ (l : List ℕ). small_bytes s ++ l)
      (flat (le_all 4 s.presence.sums.sum) (le_all 8 s.presence.sums.sumsq) (le_all 4 (map bits32 s.phase.sums.cos)) (le_all 4 (map bits32 s.phase.sums.sin)) (le_all 4 s.breathing.acc) (le_all 4 s.heart.acc) rest)

  at-presence : drop presence_at m ≡ presence_on
  at-presence = behind tag_at 1 m (s.tag ∷ []) presence_on refl at_tag

  at-phase : drop phase_at m ≡ phase_on
  at-phase = behind presence_at detector_len m (detector_bytes s.presence.state) phase_on refl at-presence

  at-breathing : drop breathing_at m ≡ breathing_on
  at-breathing = behind phase_at detector_len m (detector_bytes s.phase.state) breathing_on refl at-phase

  at-heart : drop heart_at m ≡ heart_on
  at-heart = behind breathing_at progress_len m (progress_bytes s.breathing.progress) heart_on refl at-breathing

  at-baseline : drop baseline_at m ≡ baseline_on
  at-baseline = behind heart_at progress_len m (progress_bytes s.heart.progress) baseline_on refl at-heart

  at-fall : drop fall_at m ≡ fall_on
  at-fall = behind baseline_at baseline_len m (baseline_bytes s.baseline) fall_on refl at-baseline

  at_sum : drop sum_at m ≡ sum_bytes
  at_sum = behind fall_at fall_len m (fall_bytes s.fall) sum_bytes refl at-fall

  at-sumsq : drop sumsq_at m ≡ sumsq_bytes
  at-sumsq = behind sum_at (4 * columns) m (le_all 4 s.presence.sums.sum) sumsq_bytes (words_long 4 columns s.presence.sums.sum full.sum) at_sum

  at-cos : drop cos_at m ≡ cos_bytes
  at-cos = behind sumsq_at (8 * columns) m (le_all 8 s.presence.sums.sumsq) cos_bytes (words_long 8 columns s.presence.sums.sumsq full.sumsq) at-sumsq

  at-sin : drop sin_at m ≡ sin_bytes
  at-sin = behind cos_at (4 * columns) m (le_all 4 (map bits32 s.phase.sums.cos)) sin_bytes (bits-long columns s.phase.sums.cos full.cos) at-cos

  at-breathing-acc : drop breathing_acc_at m ≡ breathing_bytes
  at-breathing-acc = behind sin_at (4 * columns) m (le_all 4 (map bits32 s.phase.sums.sin)) breathing_bytes (bits-long columns s.phase.sums.sin full.sin) at-sin

  at-heart-acc : drop heart_acc_at m ≡ heart_bytes
  at-heart-acc = behind breathing_acc_at (4 * columns) m (le_all 4 s.breathing.acc) heart_bytes (words_long 4 columns s.breathing.acc full.breathing) at-breathing-acc

  pub load_stored : Small s → Ranged s → state_at m ≡ s
  unfolding state_at
  load_stored n r =
      let tag : get_or m tag_at 0 ≡ s.tag = sym (get_or-drop settings_len m 0 0) ∙ ap (λ (l : List ℕ). get_or l 0 0) at_tag in
      let presence : detector_in m presence_at ≡ s.presence.state = here detector_in m presence_on presence_at s.presence.state (omega (arith, room)) at-presence (λ q. detector-back q phase_on s.presence.state n.presence-count n.presence-filled n.presence-next r.presence-wander r.presence-motion) in
      let phase : detector_in m phase_at ≡ s.phase.state = here detector_in m phase_on phase_at s.phase.state (omega (arith, room)) at-phase (λ q. detector-back q breathing_on s.phase.state n.phase-count n.phase-filled n.phase-next r.phase-wander r.phase-motion) in
      let breathing : progress_in m breathing_at ≡ s.breathing.progress = here progress_in m breathing_on breathing_at s.breathing.progress (omega (arith, room)) at-breathing (λ q. progress-back q heart_on s.breathing.progress n.breathing-count n.breathing-filled n.breathing-next n.breathing-acc n.breathing-since) in
      let heart : progress_in m heart_at ≡ s.heart.progress = here progress_in m heart_on heart_at s.heart.progress (omega (arith, room)) at-heart (λ q. progress-back q baseline_on s.heart.progress n.heart-count n.heart-filled n.heart-next n.heart-acc n.heart-since) in
      let baseline : baseline_in m baseline_at ≡ s.baseline = here baseline_in m baseline_on baseline_at s.baseline (omega (arith, room)) at-baseline (λ q. baseline-back q fall_on s.baseline r.baseline-sum n.baseline-frames) in
      let fall : fall_in m fall_at ≡ s.fall = here fall_in m fall_on fall_at s.fall (omega (arith, room)) at-fall (λ q. fall-back q sum_bytes s.fall r.peak r.a r.b) in
      let sum : words_in 4 columns (drop sum_at m) ≡ s.presence.sums.sum = words-here 4 columns sum_at m s.presence.sums.sum sumsq_bytes full.sum r.sum at_sum in
      let sumsq : words_in 8 columns (drop sumsq_at m) ≡ s.presence.sums.sumsq = words-here 8 columns sumsq_at m s.presence.sums.sumsq cos_bytes full.sumsq r.sumsq at-sumsq in
      let cos : map signed32 (words_in 4 columns (drop cos_at m)) ≡ s.phase.sums.cos = signed-here columns cos_at m s.phase.sums.cos sin_bytes full.cos r.cos at-cos in
      let sin : map signed32 (words_in 4 columns (drop sin_at m)) ≡ s.phase.sums.sin = signed-here columns sin_at m s.phase.sums.sin breathing_bytes full.sin r.sin at-sin in
      let breathing-acc : words_in 4 columns (drop breathing_acc_at m) ≡ s.breathing.acc = words-here 4 columns breathing_acc_at m s.breathing.acc heart_bytes full.breathing r.breathing at-breathing-acc in
      let heart-acc : words_in 4 columns (drop heart_acc_at m) ≡ s.heart.acc = words-here 4 columns heart_acc_at m s.heart.acc rest full.heart r.heart at-heart-acc in
      λ i. record {
        tag = tag i;
        presence = record { state = presence i; sums = record { sum = sum i; sumsq = sumsq i } };
        phase = record { state = phase i; sums = record { cos = cos i; sin = sin i } };
        breathing = record { progress = breathing i; acc = breathing-acc i };
        heart = record { progress = heart i; acc = heart-acc i };
        baseline = baseline i;
        fall = fall i;
      }

-- the same behind any settings
pub stored_loaded : (p rest : List ℕ) (s : RoomState) → length p ≡ settings_len → Full s → Small s → Ranged s → state_at (p ++ (state_bytes s ++ rest)) ≡ s
stored_loaded p rest s l f n r =
    let room : header_len ≤ length (p ++ (state_bytes s ++ rest)) =
    omega (arith, l, state-long s f, length-append p (state_bytes s ++ rest), length-append (state_bytes s) rest)
    in
    load_stored (p ++ (state_bytes s ++ rest)) rest s room (drop_at p (state_bytes s ++ rest) settings_len l) f n r

-- ---- before and behind the state all is as it was
module _ (p rest : List ℕ) (s : RoomState) (long : length p ≡ settings_len) where
  pub kept-settings : take settings_len (p ++ (state_bytes s ++ rest)) ≡ p
  kept-settings = take_at p (state_bytes s ++ rest) settings_len long

  pub kept-rest : length (state_bytes s) ≡ state_len → drop header_len (p ++ (state_bytes s ++ rest)) ≡ rest
  kept-rest l =
      behind settings_len state_len (p ++ (state_bytes s ++ rest)) (state_bytes s) rest l (drop_at p (state_bytes s ++ rest) settings_len long)

-- a memory m that `store` left as o, which is as long as it was
module _ (m o : List ℕ) (s : RoomState) (room : header_len ≤ length m) (same : length o ≡ length m) (stored : o ≡ take settings_len m ++ (state_bytes s ++ drop header_len m)) where
  settings-long : length (take settings_len m) ≡ settings_len
  settings-long = length-take-le settings_len m (omega (arith, room))

  pub long-stored : length (state_bytes s) ≡ state_len
  long-stored =
      omega (arith, room, same, ap length stored, settings-long, length-append (take settings_len m) (state_bytes s ++ drop header_len m), length-append (state_bytes s) (drop header_len m), length-drop header_len m)

  pub settings-stored : take settings_len o ≡ take settings_len m
  settings-stored = rw stored (kept-settings (take settings_len m) (drop header_len m) s settings-long)

  pub rest-stored : drop header_len o ≡ drop header_len m
  rest-stored = rw stored (kept-rest (take settings_len m) (drop header_len m) s settings-long long-stored)

-- ---- storing what was loaded gives the same bytes
module _ (m : List ℕ) (room : header_len ≤ length m) (bytes : (i : ℕ) → get_or m i 0 < 256) where
  columns-same : (rest : List ℕ) → rest ≡ drop header_len m
      → column_bytes (state_at m).presence.sums (state_at m).phase.sums (state_at m).breathing.acc (state_at m).heart.acc ++ rest ≡ drop sum_at m
  unfolding state_at
  columns-same rest d =
      let e₆ = words_same m bytes 4 columns heart_acc_at rest (omega (arith, room)) d in
      let e₅ = words_same m bytes 4 columns breathing_acc_at _ (omega (arith, room)) e₆ in
      let e₄ = signed_same m bytes columns sin_at _ (omega (arith, room)) e₅ in
      let e₃ = signed_same m bytes columns cos_at _ (omega (arith, room)) e₄ in
      let e₂ = words_same m bytes 8 columns sumsq_at _ (omega (arith, room)) e₃ in
      let e₁ = words_same m bytes 4 columns sum_at _ (omega (arith, room)) e₂ in
      flat (le_all 4 (words_in 4 columns (drop sum_at m))) (le_all 8 (words_in 8 columns (drop sumsq_at m))) (le_all 4 (map bits32 (map signed32 (words_in 4 columns (drop cos_at m)))))
      (le_all 4 (map bits32 (map signed32 (words_in 4 columns (drop sin_at m))))) (le_all 4 (words_in 4 columns (drop breathing_acc_at m))) (le_all 4 (words_in 4 columns (drop heart_acc_at m))) rest
      ∙ e₁

  small_same : (rest : List ℕ) → flags m ≡ true → rest ≡ drop sum_at m → small_bytes (state_at m) ++ rest ≡ drop settings_len m
  unfolding state_at flags
  small_same rest f d =
      let g = both (leb (get_or m (presence_at + present_at) 0) 1) (leb (get_or m (phase_at + present_at) 0) 1) f in
      let e₆ = fall-same m bytes fall_at rest (omega (arith, room)) d in
      let e₅ = baseline-same m bytes baseline_at _ (omega (arith, room)) e₆ in
      let e₄ = progress-same m bytes heart_at _ (omega (arith, room)) e₅ in
      let e₃ = progress-same m bytes breathing_at _ (omega (arith, room)) e₄ in
      let e₂ = detector-same m bytes phase_at _ (omega (arith, room)) g.1 e₃ in
      let e₁ = detector-same m bytes presence_at _ (omega (arith, room)) g.0 e₂ in
      byte-same m bytes tag_at presence_at (get_or m tag_at 0) _ refl (omega (arith, room)) refl e₁

  pub stored_same : flags m ≡ true → take settings_len m ++ (state_bytes (state_at m) ++ drop header_len m) ≡ m
  unfolding state_bytes
  stored_same f =
      let s : RoomState = state_at m in
      let c : List ℕ = column_bytes s.presence.sums s.phase.sums s.breathing.acc s.heart.acc in
      let e : (small_bytes s ++ c) ++ drop header_len m ≡ drop settings_len m = append_assoc (small_bytes s) c (drop header_len m) ∙ small_same (c ++ drop header_len m) f (columns-same (drop header_len m) refl) in
      ap (λ (l : List ℕ). take settings_len m ++ l) e ∙ take-append-drop settings_len m

-- a stored flag is 0 or 1
flag_small : (a : Bool) → leb (flag a) 1 ≡ true
flag_small true = refl
flag_small false = refl

pub flags-stored : (p rest : List ℕ) (s : RoomState) → length p ≡ settings_len → flags (p ++ (state_bytes s ++ rest)) ≡ true
unfolding flags state_bytes
flags-stored p rest s l =
    let m : List ℕ = p ++ (state_bytes s ++ rest) in
    let d : drop settings_len m ≡ state_bytes s ++ rest = drop_at p (state_bytes s ++ rest) settings_len l in
    let e₁ : get_or m (presence_at + present_at) 0 ≡ flag s.presence.state.present = sym (get_or-drop settings_len m 10 0) ∙ ap (λ (x : List ℕ). get_or x 10 0) d in
    let e₂ : get_or m (phase_at + present_at) 0 ≡ flag s.phase.state.present = sym (get_or-drop settings_len m 28 0) ∙ ap (λ (x : List ℕ). get_or x 28 0) d in
    ap (λ (x : ℕ). leb x 1 && leb (get_or m (phase_at + present_at) 0) 1) e₁ ∙ ap (λ (x : ℕ). leb (flag s.presence.state.present) 1 && leb x 1) e₂ ∙ rw (flag_small s.presence.state.present, flag_small s.phase.state.present)
