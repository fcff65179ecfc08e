-- What a call that is not refused has found. Assumes nothing.
use mathlib.Core.Path.{◌≡◌}
use mathlib.Core.Bool.{Bool, true, cond, ◌&&◌}
use mathlib.Core.List.{List}
use Prim.Native.Nat.{ℕ}
use borrow.Author.Tests.{eqb-true}
use lib.ListN.{length}
use Rattle.num.proofs.Cond.{zero-first}
use Rattle.num.proofs.Logic.{both}
use Rattle.vitals.specs.declared.config.VitalsConfig.{VitalsConfig}
use Rattle.estimator.specs.Calls.{fits, reset_refusal}
use Rattle.estimator.specs.State.{legal, in_range, ring_length}
use Rattle.estimator.specs.declared.VitalsEstimator.{VitalsEstimator}

pub served : (cfg : VitalsConfig) (n : ℕ) (s : VitalsEstimator) (bytes : List ℕ) → reset_refusal cfg n s bytes ≡ 0
    → (legal cfg n ≡ true) × (length bytes ≡ ring_length n) × (in_range cfg n s.progress s.acc ≡ true)
served cfg n s bytes e =
    let long : Bool = fits n bytes in let good : Bool = in_range cfg n s.progress s.acc in
    let first = zero-first (legal cfg n) (cond (long && good) 0 2) 0 e in
    let rest = both long good (zero-first (long && good) 0 1 first.1).0 in
    (first.0, eqb-true (length bytes) (ring_length n) rest.0, rest.1)
