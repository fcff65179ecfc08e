-- `room_memory::steps::store_small` meets its contract. Assumes nothing.
use mathlib.Core.Path.{◌≡◌, refl, ◌∙◌}
use mathlib.Core.List.{List, [], ◌∷◌, ◌++◌, append_assoc}
use Prim.Native.Nat.{ℕ}
use native.Mathlib.Omega.{arith}
use lib.ListN.{take, drop}
use Rattle.num.proofs.Parts.{front-start, front-next}
use Rattle.room_memory.specs.Fields.{detector_len, detector_bytes, progress_len, progress_bytes, baseline_len, baseline_bytes, fall_len, fall_bytes}
use Rattle.room_memory.specs.Header.{tag_at, sum_at}
use Rattle.room_memory.proofs.Writing.{byte-next}
use Rattle.room_memory.proofs.steps.store_small.Goals as goal

regroup : (p a b c d e f g r : List ℕ) → (((((((p ++ a) ++ b) ++ c) ++ d) ++ e) ++ f) ++ g) ++ r ≡ p ++ ((a ++ (b ++ (c ++ (d ++ (e ++ (f ++ g)))))) ++ r)
regroup p a b c d e f g r = simp append_assoc

pub returns : goal.returns
returns c =
    let f₀ = front-start tag_at c.args.m.now (omega (arith, c.told-m)) in
    let f₁ = byte-next f₀ tag_at refl c.args.s.now.tag (omega (arith, c.told-m)) in
    let f₂ = front-next detector_len (detector_bytes c.args.s.now.presence.state) _ f₁ refl c.put_detector.ensures in
    let f₃ = front-next detector_len (detector_bytes c.args.s.now.phase.state) _ f₂ refl c.put_detector-2.ensures in
    let f₄ = front-next progress_len (progress_bytes c.args.s.now.breathing.progress) _ f₃ refl c.put_progress.ensures in
    let f₅ = front-next progress_len (progress_bytes c.args.s.now.heart.progress) _ f₄ refl c.put_progress-2.ensures in
    let f₆ = front-next baseline_len (baseline_bytes c.args.s.now.baseline) _ f₅ refl c.put_baseline.ensures in
    let f₇ = front-next fall_len (fall_bytes c.args.s.now.fall) _ f₆ refl c.put_fall.ensures in
    f₇.whole
    ∙ regroup (take tag_at c.args.m.now) (c.args.s.now.tag ∷ []) (detector_bytes c.args.s.now.presence.state) (detector_bytes c.args.s.now.phase.state) (progress_bytes c.args.s.now.breathing.progress) (progress_bytes c.args.s.now.heart.progress) (baseline_bytes c.args.s.now.baseline) (fall_bytes c.args.s.now.fall) (drop sum_at c.args.m.now)
