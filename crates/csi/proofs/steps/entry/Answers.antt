-- `csi::steps::entry` meets its contract: an entry of the first range or of the second. Assumes nothing.
use mathlib.Core.Path.{ap, ◌∙◌}
use Prim.Native.Nat.{◌+◌, ◌-◌}
use native.Mathlib.Omega.{arith}
use Rattle.csi.proofs.Entries.{length-entries, first, second}
use Rattle.csi.proofs.steps.entry.Goals as goal

pub overflow_add-result-else-k-n : goal.overflow_add-result-else-k-n
overflow_add-result-else-k-n c =
    omega (arith, length-entries c.args.layout, c.requires, c.span-n.ensures)

pub returns-then-k-n : goal.returns-then-k-n
returns-then-k-n c =
    rw c.from.ensures (first c.args.layout c.args.k (omega (arith, c.if-k-n.true, c.span-n.ensures)))

pub returns-else-k-n : goal.returns-else-k-n
returns-else-k-n c =
    rw c.from-else-k-n.ensures (
    ap (λ n. c.args.layout.start2 + (c.args.k - n)) c.span-n.ensures
    ∙ second c.args.layout c.args.k (omega (arith, c.if-k-n.false, c.span-n.ensures)) (omega (arith, c.requires, length-entries c.args.layout))
    )
