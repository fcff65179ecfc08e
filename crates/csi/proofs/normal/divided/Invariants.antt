-- `csi::normal::divided` meets its contract. Assumes nothing.
use mathlib.Core.Path.{◌≡◌}
use mathlib.Core.List.{map, ◌++◌}
use Prim.Native.Nat.{◌-◌}
use lib.ListN.{take, replicate}
use Rattle.csi.specs.Features.{scale}
use Rattle.csi.specs.Layout.{max_subcarriers}
use Rattle.csi.proofs.normal.divided.Given as goal

-- the first k are divided, and 0 stands behind them
abbrev pub invariant-loop-k : goal.invariant-loop-k
invariant-loop-k l = l.out ≡ map (scale l.n l.sum) (take l.k l.amplitudes) ++ replicate (max_subcarriers - l.k) 0
