-- A memory just begun: it is good, it means a new unit, and it is what the code's steps of a beginning leave. Assumes nothing.
--
--     new-memory      what `unit` asks of a layout
--     begun-memory    cleared memory with the settings at its front and a new state stored in it
--     fresh-small     a new state can be stored
use mathlib.Core.Path.{◌≡◌, refl, sym, ap, ◌∙◌, subst}
use mathlib.Core.Bool.{true}
use mathlib.Core.List.{List, ◌++◌}
use Prim.Native.Nat.{ℕ, ◌+◌, ◌-◌, ◌*◌, ◌^◌, ◌≤◌, ◌<◌}
use native.Mathlib.Omega.{arith}
use lib.IntN.{pos}
use lib.ListN.{length, take, drop, replicate, length-append, length-replicate}
use lib.Seq.{drop-drop, take_at, drop_at}
use borrow.Author.Tests.{eq-eqb}
use mir.Syntax.{w32}
use mir.Val.{SFits}
use Rattle.num.specs.Sum.{square}
use Rattle.num.proofs.Abs.{sfits-abs}
use Rattle.num.proofs.Each.{each-replicate}
use Rattle.num.proofs.Lists.{drop-replicate, part-replicate}
use Rattle.window.specs.Window.{columns, max_rows}
use Rattle.window.proofs.Ring.{ring-zero}
use Rattle.detector.proofs.Calls.{valid-new}
use Rattle.presence.specs.Presence.{presence_kind}
use Rattle.presence.specs.Wander.{amplitudes, self}
use Rattle.presence.proofs.Amplitudes.{zero-amplitudes}
use Rattle.phase_detector.specs.Phase.{phase_kind}
use Rattle.phase_detector.specs.Wander.{angles}
use Rattle.phase_detector.proofs.Angles.{zero-cosines, zero-sines}
use Rattle.estimator.specs.State.{ring_length}
use Rattle.fall.specs.declared.Phase.TheVariants.{Idle}
use Rattle.fall_words.specs.Stored.{words_of}
use Rattle.fall_words.proofs.Stored.{legal-words}
use Rattle.unit.specs.Unit.{new_view}
use Rattle.unit.specs.Promises.{NewMemory}
use Rattle.room_memory.specs.Header.{settings_len, header_len, state_len, flags, state_at, state_bytes, Small}
use Rattle.room_memory.specs.declared.RoomState.{RoomState}
use Rattle.room_memory.proofs.Whole as header
use Rattle.room_memory.proofs.Whole.{Full, stored_loaded, flags-stored, state-long, kept-settings, kept-rest}
use Rattle.room_sensing.specs.Settings.{settings_of, in_range, legal, memory_size}
use Rattle.room_sensing.specs.Sensing.{room, Held}
use Rattle.room_sensing.specs.declared.settings.Settings.{Settings}
use Rattle.room_sensing.proofs.Judged.{legal-long, legal-ranges, Ranged, ranged}
use Rattle.room_state.specs.Rings.{part_at, rings_of, rows_length}
use Rattle.room_state.specs.State.{fresh_state, GoodState, is_good}
use Rattle.room_state.specs.Memory.{new_memory, good_memory, view_of, memory}
use Rattle.room_state.proofs.Told.{good-told}
use Rattle.room_state.proofs.Restart.{rhythm-new, baseline-new, restarted-new}

abbrev zeros : ℕ → List ℕ
zeros n = replicate n 0

-- behind what is put at their front
zeros-behind : (g : List ℕ) (a k n size : ℕ) → length g ≡ a → size ≡ a + (k + n) → drop (a + k) (g ++ drop a (zeros size)) ≡ zeros n
zeros-behind g a k n size long e =
    let left : size - a - k ≡ n = omega arith in
    sym (drop-drop k a (g ++ drop a (zeros size)))
    ∙ rw (drop_at g (drop a (zeros size)) a long, drop-replicate {A = ℕ} 0 a size, drop-replicate {A = ℕ} 0 k (size - a), left)

-- ---- a new state
fresh-full : (w : ℕ) → Full (fresh_state w)
fresh-full w = record { sum = refl; sumsq = refl; cos = refl; sin = refl; breathing = refl; heart = refl }

pub fresh-small : (w : ℕ) → Small (fresh_state w)
fresh-small w =
    record {
      presence-count = omega arith;
      presence-filled = omega arith;
      presence-next = omega arith;
      phase-count = omega arith;
      phase-filled = omega arith;
      phase-next = omega arith;
      breathing-count = omega arith;
      breathing-filled = omega arith;
      breathing-next = omega arith;
      breathing-acc = omega arith;
      breathing-since = omega arith;
      heart-count = omega arith;
      heart-filled = omega arith;
      heart-next = omega arith;
      heart-acc = omega arith;
      heart-since = omega arith;
      baseline-frames = omega arith;
    }

fresh-ranged : (w : ℕ) → w ≤ max_rows → header.Ranged (fresh_state w)
unfolding words_of
fresh-ranged w small =
    let none : SFits w32 (pos 0) = sfits-abs (pos 0) (omega arith) in
    let cosines : SFits w32 (pos (w * 16384)) = sfits-abs (pos (w * 16384)) (omega (arith, small)) in
    record {
      presence-wander = omega arith;
      presence-motion = omega arith;
      phase-wander = omega arith;
      phase-motion = omega arith;
      baseline-sum = omega arith;
      peak = omega arith;
      a = omega arith;
      b = omega arith;
      sum = each-replicate (λ (x : ℕ). x < 2 ^ 32) columns 0 0 (omega arith) (omega arith);
      sumsq = each-replicate (λ (x : ℕ). x < 2 ^ 64) columns 0 0 (omega arith) (omega arith);
      cos = each-replicate (SFits w32) columns _ (pos 0) (subst (SFits w32) (zero-cosines w) cosines) none;
      sin = each-replicate (SFits w32) columns _ (pos 0) (subst (SFits w32) (zero-sines w) none) none;
      breathing = each-replicate (λ (x : ℕ). x < 2 ^ 32) columns 0 0 (omega arith) (omega arith);
      heart = each-replicate (λ (x : ℕ). x < 2 ^ 32) columns 0 0 (omega arith) (omega arith);
    }

-- over rows of zeros it is good
fresh-good : (σ : Settings) → in_range σ ≡ true → GoodState σ (fresh_state σ.w) (rings_of σ (zeros (rows_length σ)))
fresh-good σ e =
    let r : Ranged σ = ranged σ e in
    let k : ℕ = ring_length σ.w in
    let first : part_at 0 k (zeros (rows_length σ)) ≡ zeros k = part-replicate {A = ℕ} 0 0 k (rows_length σ) (omega arith) in
    let second : part_at k k (zeros (rows_length σ)) ≡ zeros k = part-replicate {A = ℕ} 0 k k (rows_length σ) (omega arith) in
    let sums = ring-zero amplitudes σ.w columns k 0 0 r.window.small refl (zero-amplitudes self refl σ.w) (zero-amplitudes square refl σ.w) in
    let vectors = ring-zero angles σ.w columns k _ _ r.window.small refl refl refl in
    record {
      tag = omega arith;
      presence = rw first (valid-new presence_kind σ.w columns (zeros k) _ _ r.window.some sums);
      phase = rw second (valid-new phase_kind σ.w columns (zeros k) _ _ r.window.some vectors);
      breathing = rhythm-new σ.breathing σ.n r.breathing;
      heart = rhythm-new σ.heart σ.n r.heart;
      baseline = baseline-new;
      fall = legal-words Idle;
    }

-- ---- a new memory
module _ (g : List ℕ) (ok : legal g ≡ true) where
  abbrev σ : Settings
  σ = settings_of g

  abbrev s : RoomState
  s = fresh_state σ.w

  abbrev rest : List ℕ
  rest = zeros (rows_length σ)

  in-range : in_range σ ≡ true
  in-range = legal-ranges g ok

  state-size : length (state_bytes s) ≡ state_len
  state-size = state-long s (fresh-full σ.w)

  new-settings : take settings_len (new_memory g) ≡ g
  unfolding new_memory
  new-settings = kept-settings g rest s (legal-long g ok)

  new-state : state_at (new_memory g) ≡ s
  unfolding new_memory
  new-state = stored_loaded g rest s (legal-long g ok) (fresh-full σ.w) (fresh-small σ.w) (fresh-ranged σ.w (ranged σ in-range).window.small)

  new-rest : drop header_len (new_memory g) ≡ rest
  unfolding new_memory
  new-rest = kept-rest g rest s (legal-long g ok) state-size

  new-flags : flags (new_memory g) ≡ true
  unfolding new_memory
  new-flags = flags-stored g rest s (legal-long g ok)

  new-long : length (new_memory g) ≡ memory_size σ
  unfolding new_memory memory_size
  new-long =
      omega (arith, legal-long g ok, state-size, length-append g (state_bytes s ++ rest), length-append (state_bytes s) rest, length-replicate {A = ℕ} (rows_length σ) 0)

  new-good : good_memory (new_memory g) ≡ true
  unfolding good_memory
  new-good =
      let good : is_good σ s (rings_of σ rest) ≡ true = (good-told σ s (rings_of σ rest)).1 (fresh-good σ in-range) in
      rw (new-settings, new-state, new-rest, new-flags, ok, eq-eqb (length (new_memory g)) (memory_size σ) new-long, good)

  new-view : view_of (new_memory g) ≡ new_view room σ
  unfolding view_of
  new-view =
      rw (new-settings, new-state, new-rest)
      (ap (λ (h : Held). record { settings = σ; tag = 0; held = h }) (restarted-new σ s (rings_of σ rest) 0))

pub new-memory : NewMemory room memory
new-memory = record { is-good = new-good; is-new = new-view; long = new-long }

-- ---- the code's steps: the memory cleared, the settings put at its front, the state stored
pub begun-memory : (g o m' : List ℕ) → legal g ≡ true → o ≡ g ++ drop settings_len (replicate (memory_size (settings_of g)) 0)
    → m' ≡ take settings_len o ++ (state_bytes (fresh_state (settings_of g).w) ++ drop header_len o) → m' ≡ new_memory g
unfolding new_memory memory_size
begun-memory g o m' ok cleared stored =
    let long : length g ≡ settings_len = legal-long g ok in
    let size : ℕ = memory_size (settings_of g) in
    let rows : ℕ = rows_length (settings_of g) in
    let front : take settings_len o ≡ g = ap (take settings_len) cleared ∙ take_at g (drop settings_len (zeros size)) settings_len long in
    let behind : drop header_len o ≡ zeros rows = ap (drop header_len) cleared ∙ zeros-behind g settings_len state_len rows size long (omega arith) in
    stored ∙ rw (front, behind)

-- and it has a header
pub begin-long : (g : List ℕ) (n : ℕ) → n ≡ memory_size (settings_of g) → header_len ≤ n
unfolding memory_size
begin-long g n e = omega (arith, e)
