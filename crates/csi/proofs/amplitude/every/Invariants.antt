-- `csi::amplitude::every` meets its contract. Assumes nothing.
use mathlib.Core.Path.{◌≡◌}
use Prim.Native.Nat.{ℕ, ◌<◌}
use lib.ListN.{length, get_or}
use Rattle.csi.specs.Features.{amplitude_at}
use Rattle.csi.specs.Layout.{max_subcarriers}
use Rattle.csi.proofs.amplitude.every.Given as goal

-- the amplitudes of the first k entries stand in the array
abbrev pub invariant-loop-k : goal.invariant-loop-k
invariant-loop-k l = (length l.all ≡ max_subcarriers) × ((j : ℕ) → j < l.k → get_or l.all j 0 ≡ amplitude_at l.iq j)
