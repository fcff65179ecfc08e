-- `is_peak` meets its contract: the sums are small, so that a local of 32 bits holds each. Assumes nothing.
use mathlib.Core.Path.{◌≡◌}
use mathlib.Core.List.{List}
use Prim.Native.Nat.{ℕ, ◌+◌, ◌*◌, ◌≤◌}
use native.Mathlib.Omega.{arith}
use lib.IntN.{ℤ}
use mir.Syntax.{w32}
use mir.Val.{to_z, of_z}
use Rattle.std.proofs.Common.{rules}
use Rattle.num.specs.Limits.{max_subcarriers}
use Rattle.num.proofs.Read.{read-abs}
use Rattle.vitals.specs.Series.{at}
use Rattle.vitals.specs.Steps.{Within}
use Rattle.vitals.proofs.steps.summed.LagSums.is_peak.Goals as goal

-- a sum of a few columns' correlations, as it is read
read : (s : List ℤ) (used k : ℕ) → used ≤ max_subcarriers → Within (2000 * used) s → to_z w32 (of_z w32 (at s k)) ≡ at s k
read s used k few small = read-abs w32 (at s k) (omega (arith, small k, few))

pub returns-then-self-lag : goal.returns-then-self-lag
returns-then-self-lag g c =
    let s = c.args.self.now in let k = c.args.lag in
    rw (read s.by_lag s.used (k + 1) s.few s.small, read s.by_lag s.used k s.few s.small) (search rules)
