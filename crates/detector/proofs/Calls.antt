-- The public calls, for every kind of detector: the tests tell of the statements, and each way through a call meets its contract. Assumes nothing.
use mathlib.Core.Path.{◌≡◌, refl, ap}
use mathlib.Core.Bool.{Bool, true, false, cond, ◌&&◌}
use mathlib.Core.List.{List}
use Prim.Native.Nat.{ℕ, ◌*◌, ◌≤◌}
use native.Mathlib.Omega.{arith}
use lib.Dec.{leb, ltb}
use lib.ListN.{length, replicate}
use borrow.Author.Tests.{eq-eqb}
use Rattle.std.specs.Prelude.{Result, Ok, Err}
use Rattle.refusal.specs.declared.Refusal.{Refusal}
use Rattle.num.specs.Tests.{Tells}
use Rattle.num.proofs.Tests.{tells-iff, tells_both, tells-le, tells-lt}
use Rattle.window.specs.Window.{max_rows, ring_rows}
use Rattle.window.specs.Sums.{Ring, is_ring, total_by}
use Rattle.window.proofs.Check.{ring-told}
use Rattle.window.proofs.Ring.{ring-zero}
use Rattle.window.proofs.View.{window-none}
use Rattle.detector.specs.State.{Placed, is_placed, new_state, reset_state}
use Rattle.detector.specs.Detector.{Kind, Valid, is_valid, detector_of, new_detector}
use Rattle.detector.specs.Calls.{is_window, window_check, Clears, Begins, Resets, Keeps, Calls}
use Rattle.detector.specs.declared.Limits.{Limits}
use Rattle.detector.specs.declared.State.{State}
use Rattle.detector.specs.declared.Verdict.TheVariants.{Warming}

-- Tests

pub placed-told : (w c top : ℕ) (s : State) → Tells (is_placed w c top s) (Placed w c top s)
placed-told w c top s =
    tells-iff (is_placed w c top s)
    (λ all. record { slot = all.0; most = all.1.0; narrow = all.1.1.0; calm = all.1.1.1 })
    (λ p. (p.slot, (p.most, (p.narrow, p.calm))))
    (tells_both (ltb s.next w) (leb s.filled w && (leb s.count c && leb s.wander top)) (tells-lt s.next w)
    (tells_both (leb s.filled w) (leb s.count c && leb s.wander top) (tells-le s.filled w)
    (tells_both (leb s.count c) (leb s.wander top) (tells-le s.count c) (tells-le s.wander top))))

pub valid-told : (K : Kind) (w c : ℕ) (s : State) (bytes : List ℕ) (fs gs : List K.sums.Number) → Tells (is_valid K w c s bytes fs gs) (Valid K w c s bytes fs gs)
valid-told K w c s bytes fs gs =
    tells-iff (is_placed w c K.top s && is_ring K.sums w c bytes fs gs)
    (λ both. record { ring = both.1; placed = both.0 })
    (λ v. (v.placed, v.ring))
    (tells_both (is_placed w c K.top s) (is_ring K.sums w c bytes fs gs) (placed-told w c K.top s) (ring-told K.sums w c bytes fs gs))

-- the size of a window that is one
pub record Sized (w : ℕ) : Type 0 where
  pub some : 1 ≤ w
  pub small : w ≤ max_rows

pub sized : (w : ℕ) → is_window w ≡ true → Sized w
sized w e = let both = (tells_both (leb 1 w) (leb w max_rows) (tells-le 1 w) (tells-le w max_rows)).0 e in record { some = both.0; small = both.1 }

pub window-passed : (w : ℕ) {u : Unit {0}} → window_check w ≡ Ok u → is_window w ≡ true
window-passed w {u} e = go (is_window w) refl e
  where
    go : (a : Bool) → is_window w ≡ a → ◌≡◌ {A = Result (Unit {0}) Refusal} (cond a (Ok tt) (Err Refusal.Settings)) (Ok u) → is_window w ≡ true
    go true ea k = ea
    go false ea k = cc

-- A NEW DETECTOR

-- a new state is in range over any ring
pub valid-new : (K : Kind) (w c : ℕ) (bytes : List ℕ) (fs gs : List K.sums.Number) → 1 ≤ w → Ring K.sums w c bytes fs gs → Valid K w c new_state bytes fs gs
valid-new K w c bytes fs gs some ring =
    record { ring = ring; placed = record { slot = omega arith; most = omega arith; narrow = omega arith; calm = omega arith } }

-- and it stands for a new detector, whatever the rows hold
pub new-view : (rows : List (List ℕ)) → detector_of new_state rows ≡ new_detector
unfolding detector_of
new-view rows = ap (λ (l : List (List ℕ)). record { window = l; wander = 0; present = false; last = 0 }) (window-none 0 0 rows)

module _ (K : Kind) (w c : ℕ) (bytes : List ℕ) where
  pub new-begun : is_window w ≡ true → length bytes ≡ 2 * (w * c) → {s : State} → s ≡ new_state → {bytes' : List ℕ} {fs gs : List K.sums.Number} → Clears K w c bytes bytes' fs gs → Begins K w c bytes 0 s bytes' fs gs
  new-begun e whole new clears =
      record { number = rw (e, eq-eqb (length bytes) (2 * (w * c)) whole); state = new; refused = λ n. absurd (n refl); begun = λ z. clears }

  -- cleared memory, with sums a and b that are those of w zeros
  pub cleared : 1 ≤ w → w ≤ max_rows → length bytes ≡ 2 * (w * c) → (a b : K.sums.Number)
      → a ≡ total_by K.sums.add K.sums.none K.sums.f (replicate w 0) → b ≡ total_by K.sums.add K.sums.none K.sums.g (replicate w 0)
      → Clears K w c bytes (replicate (length bytes) 0) (replicate c a) (replicate c b)
  cleared some small whole a b ea eb =
      record {
        memory = refl;
        firsts = ap (replicate c) ea;
        seconds = ap (replicate c) eb;
        valid = valid-new K w c (replicate (length bytes) 0) (replicate c a) (replicate c b) some (ring-zero K.sums w c (length bytes) a b small whole ea eb);
      }

module _ (K : Kind) (w c : ℕ) (s : State) (bytes : List ℕ) (fs gs : List K.sums.Number) where
  -- A RESET
  pub reset-done : is_window w ≡ true → is_valid K w c s bytes fs gs ≡ true → (s' : State) → s' ≡ reset_state s → Resets K w c s bytes fs gs 0 s' fs gs
  unfolding detector_of
  reset-done e v s' es =
      let valid : Valid K w c s bytes fs gs = (valid-told K w c s bytes fs gs).0 v in
      let p : Placed w c K.top s = valid.placed in
      record {
        number = rw (e, v);
        sums = (refl, refl);
        refused = λ n. absurd (n refl);
        state = λ z. es;
        valid = λ z. rw es (record { ring = valid.ring; placed = record { slot = omega (arith, p.slot); most = omega arith; narrow = omega arith; calm = omega arith } });
        detector = λ z. rw es (ap (λ (l : List (List ℕ)). record { window = l; wander = 0; present = false; last = s.last_motion }) (window-none 0 0 (ring_rows w c bytes)));
      }

  -- A PUSH
  module _ (lim : Limits) (new : List ℕ) (count now : ℕ) where
    kept : Keeps K s bytes fs gs s bytes fs gs Warming
    kept = record { state = refl; memory = refl; firsts = refl; seconds = refl; answer = refl }

    pub call-window : is_window w ≡ false → Calls K lim w c s bytes fs gs new count now 1 s bytes fs gs Warming
    call-window e = record { number = rw e; refused = λ n. kept; pushed = λ z. absurd (omega arith) }

    pub call-invalid : is_window w ≡ true → is_valid K w c s bytes fs gs ≡ false → Calls K lim w c s bytes fs gs new count now 2 s bytes fs gs Warming
    call-invalid e v = record { number = rw (e, v); refused = λ n. kept; pushed = λ z. absurd (omega arith) }
