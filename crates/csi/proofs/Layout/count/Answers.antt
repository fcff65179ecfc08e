-- `csi::Layout::count` meets its contract. Assumes nothing.
use native.Mathlib.Omega.{arith}
use Rattle.csi.proofs.Entries.{length-entries}
use Rattle.csi.proofs.Layout.count.Goals as goal

pub returns : goal.returns
returns c = omega (arith, length-entries c.args.self)
