-- `phase::line::line_off` meets its contract: what the methods say, put together. Assumes nothing.
use mathlib.Core.Path.{ap, ◌∙◌}
use mathlib.Core.List.{◌++◌}
use Prim.Native.Nat.{◌-◌}
use lib.IntN.{pos}
use lib.ListN.{length, replicate}
use Rattle.csi.specs.Layout.{max_subcarriers}
use Rattle.phase.proofs.Walks.{put-together}
use Rattle.phase.proofs.line.line_off.Goals as goal

pub returns : goal.returns
returns c =
    let xs = c.args.angles.now in
    c.taken_off.ensures
    ∙ ap (λ ys. ys ++ replicate (max_subcarriers - length xs) (pos 0))
    (put-together xs c.of.result.n c.of.result.su c.of.result.sku c.line.result.slope c.line.result.icpt c.of.ensures.0 c.of.ensures.1 c.line.ensures.0 c.line.ensures.1)
