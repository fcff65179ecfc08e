-- What the header says is read in the header alone, whatever stands behind it. Assumes nothing.
use Prim.Native.Nat.{ℕ, zero, suc, ◌+◌, ◌*◌, ◌≤◌, ◌<◌}
use mathlib.Core.Path.{◌≡◌, refl, ap, ap₂, ◌∙◌}
use mathlib.Core.Bool.{◌&&◌}
use mathlib.Core.List.{List, ◌++◌, map}
use native.Mathlib.Nat.{mul-suc}
use native.Mathlib.Omega.{arith}
use lib.Dec.{leb}
use lib.ListN.{length, get_or, take, drop, length-drop, get_or-append}
use lib.Seq.{take-append-le, drop-append-le}
use Rattle.num.specs.Words.{le, le_at, words_in}
use Rattle.num.specs.Wrap.{signed32}
use Rattle.window.specs.Window.{columns}
use Rattle.room_memory.specs.Fields.{detector_len, detector_in, progress_len, progress_in, present_at}
use Rattle.room_memory.specs.Header.{tag_at, presence_at, phase_at, breathing_at, heart_at, baseline_at, fall_at, sum_at, sumsq_at, cos_at, sin_at, breathing_acc_at, heart_acc_at, header_len, state_at, flags}

-- n words of k bytes at the front of a list
words-front : (k n : ℕ) (l r : List ℕ) → k * n ≤ length l → words_in k n (l ++ r) ≡ words_in k n l
unfolding words_in
words-front k zero l r h = refl
words-front k (suc n) l r h =
    let first : k ≤ length l = omega (arith, h, mul-suc k n) in
    rw (take-append-le k l r first, drop-append-le k l r first, words-front k n (drop k l) r (omega (arith, h, mul-suc k n, length-drop k l)))

module _ (m r : List ℕ) where
  byte-front : (i : ℕ) → i < length m → get_or (m ++ r) i 0 ≡ get_or m i 0
  byte-front i h = get_or-append m r 0 i h

  word-front : (i k : ℕ) → i + k ≤ length m → le_at (m ++ r) i k ≡ le_at m i k
  word-front i k h =
      ap le (ap (take k) (drop-append-le i m r (omega (arith, h))) ∙ take-append-le k (drop i m) r (omega (arith, h, length-drop i m)))

  words-from : (k a : ℕ) → a + k * columns ≤ length m → words_in k columns (drop a (m ++ r)) ≡ words_in k columns (drop a m)
  words-from k a h =
      ap (words_in k columns) (drop-append-le a m r (omega (arith, h))) ∙ words-front k columns (drop a m) r (omega (arith, h, length-drop a m))

  detector-front : (a : ℕ) → a + detector_len ≤ length m → detector_in (m ++ r) a ≡ detector_in m a
  detector-front a h =
      rw (byte-front a (omega (arith, h)), word-front (a + 1) 2 (omega (arith, h)), word-front (a + 3) 2 (omega (arith, h)), word-front (a + 5) 4 (omega (arith, h)), byte-front (a + present_at) (omega (arith, h)), word-front (a + 10) 8 (omega (arith, h)))

  progress-front : (a : ℕ) → a + progress_len ≤ length m → progress_in (m ++ r) a ≡ progress_in m a
  progress-front a h =
      rw (byte-front a (omega (arith, h)), word-front (a + 1) 2 (omega (arith, h)), word-front (a + 3) 2 (omega (arith, h)), word-front (a + 5) 2 (omega (arith, h)), word-front (a + 7) 2 (omega (arith, h)))

module _ (m r : List ℕ) (room : header_len ≤ length m) where
  pub state-front : state_at (m ++ r) ≡ state_at m
  unfolding state_at
  state-front =
      let tag = byte-front m r tag_at (omega (arith, room)) in
      let presence = detector-front m r presence_at (omega (arith, room)) in
      let phase = detector-front m r phase_at (omega (arith, room)) in
      let breathing = progress-front m r breathing_at (omega (arith, room)) in
      let heart = progress-front m r heart_at (omega (arith, room)) in
      let learnt = word-front m r baseline_at 8 (omega (arith, room)) in
      let frames = word-front m r (baseline_at + 8) 2 (omega (arith, room)) in
      let fallen = byte-front m r fall_at (omega (arith, room)) in
      let peak = word-front m r (fall_at + 1) 2 (omega (arith, room)) in
      let first = word-front m r (fall_at + 3) 8 (omega (arith, room)) in
      let second = word-front m r (fall_at + 11) 8 (omega (arith, room)) in
      let sum = words-from m r 4 sum_at (omega (arith, room)) in
      let sumsq = words-from m r 8 sumsq_at (omega (arith, room)) in
      let cos = words-from m r 4 cos_at (omega (arith, room)) in
      let sin = words-from m r 4 sin_at (omega (arith, room)) in
      let breathing-acc = words-from m r 4 breathing_acc_at (omega (arith, room)) in
      let heart-acc = words-from m r 4 heart_acc_at (omega (arith, room)) in
      λ i. record {
        tag = tag i;
        presence = record { state = presence i; sums = record { sum = sum i; sumsq = sumsq i } };
        phase = record { state = phase i; sums = record { cos = map signed32 (cos i); sin = map signed32 (sin i) } };
        breathing = record { progress = breathing i; acc = breathing-acc i };
        heart = record { progress = heart i; acc = heart-acc i };
        baseline = record { sum = learnt i; frames = frames i };
        fall = record { tag = fallen i; peak = peak i; a = first i; b = second i };
      }

  pub flags-front : flags (m ++ r) ≡ flags m
  unfolding flags
  flags-front =
      ap₂ (λ (x y : ℕ). leb x 1 && leb y 1) (byte-front m r (presence_at + present_at) (omega (arith, room))) (byte-front m r (phase_at + present_at) (omega (arith, room)))
