-- The bytes of a small state that was read from memory are those that stand there. Assumes nothing.
use Prim.Native.Nat.{ℕ, zero, suc, ◌+◌, ◌%◌, ◌≤◌, ◌<◌}
use mathlib.Core.Path.{◌≡◌, refl}
use mathlib.Core.Bool.{true}
use mathlib.Core.List.{List, ◌++◌}
use native.Mathlib.Nat.{mod-eq_of_lt}
use native.Mathlib.Omega.{arith}
use borrow.Author.Tests.{leb-true}
use lib.Dec.{leb, eqb}
use lib.ListN.{length, get_or, drop}
use Rattle.num.proofs.Fields.{byte-same, word_same}
use Rattle.room_memory.specs.Fields.{flag, present_at, detector_len, detector_in, detector_bytes, progress_len, progress_in, progress_bytes, baseline_len, baseline_in, baseline_bytes, fall_len, fall_in, fall_bytes}

flag_same : (x : ℕ) → leb x 1 ≡ true → flag (eqb x 1) ≡ x
flag_same zero h = refl
flag_same (suc zero) h = refl
flag_same (suc (suc x)) h = absurd (omega (arith, leb-true (suc (suc x)) 1 h))

module _ (m : List ℕ) (bytes : (i : ℕ) → get_or m i 0 < 256) where
  -- a count, which is a byte already
  count_same : (a : ℕ) → get_or m a 0 % 256 ≡ get_or m a 0
  count_same a = mod-eq_of_lt (bytes a)

  pub detector-same : (a : ℕ) (rest : List ℕ) → a + detector_len ≤ length m → leb (get_or m (a + present_at) 0) 1 ≡ true → rest ≡ drop (a + detector_len) m
      → detector_bytes (detector_in m a) ++ rest ≡ drop a m
  detector-same a rest h f d =
      let e₅ = word_same m bytes (a + 10) (a + 18) 8 rest (omega arith) (omega arith) d in
      let e₄ = byte-same m bytes (a + 9) (a + 10) _ _ (omega arith) (omega arith) (flag_same (get_or m (a + 9) 0) f) e₅ in
      let e₃ = word_same m bytes (a + 5) (a + 9) 4 _ (omega arith) (omega arith) e₄ in
      let e₂ = word_same m bytes (a + 3) (a + 5) 2 _ (omega arith) (omega arith) e₃ in
      let e₁ = word_same m bytes (a + 1) (a + 3) 2 _ (omega arith) (omega arith) e₂ in
      byte-same m bytes a (a + 1) _ _ refl (omega arith) (count_same a) e₁

  pub progress-same : (a : ℕ) (rest : List ℕ) → a + progress_len ≤ length m → rest ≡ drop (a + progress_len) m → progress_bytes (progress_in m a) ++ rest ≡ drop a m
  progress-same a rest h d =
      let e₄ = word_same m bytes (a + 7) (a + 9) 2 rest (omega arith) (omega arith) d in
      let e₃ = word_same m bytes (a + 5) (a + 7) 2 _ (omega arith) (omega arith) e₄ in
      let e₂ = word_same m bytes (a + 3) (a + 5) 2 _ (omega arith) (omega arith) e₃ in
      let e₁ = word_same m bytes (a + 1) (a + 3) 2 _ (omega arith) (omega arith) e₂ in
      byte-same m bytes a (a + 1) _ _ refl (omega arith) (count_same a) e₁

  pub baseline-same : (a : ℕ) (rest : List ℕ) → a + baseline_len ≤ length m → rest ≡ drop (a + baseline_len) m → baseline_bytes (baseline_in m a) ++ rest ≡ drop a m
  baseline-same a rest h d = word_same m bytes a (a + 8) 8 _ (omega arith) (omega arith) (word_same m bytes (a + 8) (a + 10) 2 rest (omega arith) (omega arith) d)

  pub fall-same : (a : ℕ) (rest : List ℕ) → a + fall_len ≤ length m → rest ≡ drop (a + fall_len) m → fall_bytes (fall_in m a) ++ rest ≡ drop a m
  fall-same a rest h d =
      let e₃ = word_same m bytes (a + 11) (a + 19) 8 rest (omega arith) (omega arith) d in
      let e₂ = word_same m bytes (a + 3) (a + 11) 8 _ (omega arith) (omega arith) e₃ in
      let e₁ = word_same m bytes (a + 1) (a + 3) 2 _ (omega arith) (omega arith) e₂ in
      byte-same m bytes a (a + 1) _ _ refl (omega arith) refl e₁
