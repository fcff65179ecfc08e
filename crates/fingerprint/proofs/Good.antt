-- A baseline in range, as facts. Assumes nothing.
use mathlib.Core.Path.{◌≡◌}
use mathlib.Core.Bool.{true}
use mathlib.Core.List.{List, [], ◌∷◌, ◌++◌}
use Prim.Native.Nat.{ℕ, ◌*◌, ◌≤◌, ◌<◌}
use native.Mathlib.Omega.{arith}
use borrow.Author.Tests.{leb-true, le-leb}
use lib.Dec.{leb}
use lib.ListN.{length-append}
use Rattle.num.proofs.Logic.{both}
use Rattle.num.proofs.Sum.{total-snoc}
use Rattle.fingerprint.specs.Baseline.{max_frames, max_variance, good, fed, fresh, baseline_of}
use Rattle.fingerprint.specs.declared.Baseline.{Baseline}

pub record Facts (b : Baseline) : Type 0 where
  pub few : b.frames ≤ max_frames
  pub bounded : b.sum ≤ b.frames * max_variance

pub facts : (b : Baseline) → good b ≡ true → Facts b
unfolding good
facts b e =
    let p = both (leb b.frames max_frames) (leb b.sum (b.frames * max_variance)) e in
    record { few = leb-true b.frames max_frames p.0; bounded = leb-true b.sum (b.frames * max_variance) p.1 }

pub is-good : (b : Baseline) → Facts b → good b ≡ true
unfolding good
is-good b f = rw (le-leb b.frames max_frames f.few, le-leb b.sum (b.frames * max_variance) f.bounded)

-- what the calls give is in range again
pub fresh-good : good fresh ≡ true
fresh-good = is-good fresh (record { few = omega arith; bounded = omega arith })

pub fed-good : (b : Baseline) (v : ℕ) → good b ≡ true → b.frames < max_frames → v ≤ max_variance → good (fed b v) ≡ true
fed-good b v e h l =
    let f = facts b e in let g = f.bounded in
    is-good (fed b v) (record { few = omega arith; bounded = omega arith })

-- one variance more at the end of the list
pub fed-list : (vs : List ℕ) (v : ℕ) → fed (baseline_of vs) v ≡ baseline_of (vs ++ (v ∷ []))
unfolding baseline_of
fed-list vs v = rw (total-snoc vs v, length-append vs (v ∷ []))
