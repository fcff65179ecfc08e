-- How large a mean and a distance are. Assumes nothing.
use Prim.Native.Nat.{ℕ, ◌≤◌}
use native.Mathlib.Omega.{arith}
use lib.Dec.{eqb}
use Rattle.num.proofs.Cond.{cond-holds}
use Rattle.fingerprint.specs.Baseline.{distance_from}

pub distance-le : (mean variance : ℕ) → distance_from mean variance ≤ 65535
unfolding distance_from
distance-le m v = cond-holds (λ (d : ℕ). d ≤ 65535) (eqb m 0) 0 _ (λ e. omega arith) (λ e. omega arith)
