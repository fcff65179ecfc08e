-- What is stored is loaded: each small state, written behind p, is read from there, where its numbers fit their bytes. Assumes nothing.
use Prim.Native.Nat.{ℕ, ◌+◌, ◌%◌, ◌^◌, ◌<◌}
use mathlib.Core.Path.{◌≡◌, refl, ap, ◌∙◌}
use mathlib.Core.Bool.{Bool, true, false}
use mathlib.Core.List.{List, ◌++◌}
use native.Mathlib.Omega.{arith}
use lib.Dec.{eqb}
use lib.ListN.{length, get_or, drop}
use lib.Seq.{drop-append_seam, get_or-append_seam, get_or-append-add}
use Rattle.num.specs.Words.{le_at}
use Rattle.num.proofs.Words.{le-le_bytes, le_at-behind}
use Rattle.detector.specs.declared.State.{State}
use Rattle.estimator.specs.declared.Progress.{Progress}
use Rattle.fingerprint.specs.declared.Baseline.{Baseline}
use Rattle.fall_words.specs.declared.Words.{Words}
use Rattle.room_memory.specs.Fields.{flag, detector_in, detector_bytes, progress_in, progress_bytes, baseline_in, baseline_bytes, fall_in, fall_bytes}

flag-back : (b : Bool) → eqb (flag b) 1 ≡ b
flag-back true = refl
flag-back false = refl

module _ (p rest : List ℕ) where
  pub detector-back : (s : State) → s.count < 256 → s.filled < 65536 → s.next < 65536 → s.wander < 4294967296 → s.last_motion < 2 ^ 64
      → detector_in (p ++ (detector_bytes s ++ rest)) (length p) ≡ s
  detector-back s c f n w l =
      let x : List ℕ = detector_bytes s ++ rest in
      let e₁ : get_or (p ++ x) (length p) 0 ≡ s.count = get_or-append_seam p (s.count % 256) (drop 1 x) 0 ∙ (let m : s.count % 256 ≡ s.count = omega arith in m) in
      let e₂ : le_at (p ++ x) (length p + 1) 2 ≡ s.filled = le_at-behind p x 1 2 ∙ le-le_bytes 2 s.filled f in
      let e₃ : le_at (p ++ x) (length p + 3) 2 ≡ s.next = le_at-behind p x 3 2 ∙ le-le_bytes 2 s.next n in
      let e₄ : le_at (p ++ x) (length p + 5) 4 ≡ s.wander = le_at-behind p x 5 4 ∙ le-le_bytes 4 s.wander w in
      let e₅ : eqb (get_or (p ++ x) (length p + 9) 0) 1 ≡ s.present = ap (λ (b : ℕ). eqb b 1) (get_or-append-add p x 9 0) ∙ flag-back s.present in
      let e₆ : le_at (p ++ x) (length p + 10) 8 ≡ s.last_motion = le_at-behind p x 10 8 ∙ le-le_bytes 8 s.last_motion l in
      rw (e₁, e₂, e₃, e₄, e₅, e₆)

  pub progress-back : (s : Progress) → s.count < 256 → s.filled < 65536 → s.next < 65536 → s.acc_n < 65536 → s.since_update < 65536
      → progress_in (p ++ (progress_bytes s ++ rest)) (length p) ≡ s
  progress-back s c f n a u =
      let x : List ℕ = progress_bytes s ++ rest in
      let e₁ : get_or (p ++ x) (length p) 0 ≡ s.count = get_or-append_seam p (s.count % 256) (drop 1 x) 0 ∙ (let m : s.count % 256 ≡ s.count = omega arith in m) in
      let e₂ : le_at (p ++ x) (length p + 1) 2 ≡ s.filled = le_at-behind p x 1 2 ∙ le-le_bytes 2 s.filled f in
      let e₃ : le_at (p ++ x) (length p + 3) 2 ≡ s.next = le_at-behind p x 3 2 ∙ le-le_bytes 2 s.next n in
      let e₄ : le_at (p ++ x) (length p + 5) 2 ≡ s.acc_n = le_at-behind p x 5 2 ∙ le-le_bytes 2 s.acc_n a in
      let e₅ : le_at (p ++ x) (length p + 7) 2 ≡ s.since_update = le_at-behind p x 7 2 ∙ le-le_bytes 2 s.since_update u in
      rw (e₁, e₂, e₃, e₄, e₅)

  pub baseline-back : (b : Baseline) → b.sum < 2 ^ 64 → b.frames < 65536 → baseline_in (p ++ (baseline_bytes b ++ rest)) (length p) ≡ b
  baseline-back b s f =
      let x : List ℕ = baseline_bytes b ++ rest in
      let e₁ : le_at (p ++ x) (length p) 8 ≡ b.sum = rw (drop-append_seam p x) (le-le_bytes 8 b.sum s) in
      let e₂ : le_at (p ++ x) (length p + 8) 2 ≡ b.frames = le_at-behind p x 8 2 ∙ le-le_bytes 2 b.frames f in
      rw (e₁, e₂)

  pub fall-back : (w : Words) → w.peak < 65536 → w.a < 2 ^ 64 → w.b < 2 ^ 64 → fall_in (p ++ (fall_bytes w ++ rest)) (length p) ≡ w
  fall-back w h i j =
      let x : List ℕ = fall_bytes w ++ rest in
      let e₁ : get_or (p ++ x) (length p) 0 ≡ w.tag = get_or-append_seam p w.tag (drop 1 x) 0 in
      let e₂ : le_at (p ++ x) (length p + 1) 2 ≡ w.peak = le_at-behind p x 1 2 ∙ le-le_bytes 2 w.peak h in
      let e₃ : le_at (p ++ x) (length p + 3) 8 ≡ w.a = le_at-behind p x 3 8 ∙ le-le_bytes 8 w.a i in
      let e₄ : le_at (p ++ x) (length p + 11) 8 ≡ w.b = le_at-behind p x 11 8 ∙ le-le_bytes 8 w.b j in
      rw (e₁, e₂, e₃, e₄)
