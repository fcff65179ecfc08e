-- `sliding::Held::reset` meets its contract. Assumes nothing.
use mathlib.Core.Path.{sym, ◌∙◌}
use Rattle.window.specs.Window.{columns}
use Rattle.detector.proofs.Calls.{reset-done}
use Rattle.sliding.proofs.Calls.{passed}
use Rattle.sliding.proofs.Held.reset.Goals as goal

pub returns : goal.returns
returns g c =
    let p = passed g.S.ColumnSums.kind c.args.w columns c.args.self.now.state c.args.rows.now (g.S.ColumnSums.firsts c.args.self.now.sums) (g.S.ColumnSums.seconds c.args.self.now.sums) (sym c.check.ensures ∙ c.in_ok-check.was) in
    reset-done g.S.ColumnSums.kind c.args.w columns c.args.self.now.state c.args.rows.now (g.S.ColumnSums.firsts c.args.self.now.sums) (g.S.ColumnSums.seconds c.args.self.now.sums) p.window p.is-valid c.reset_state-self.result c.reset_state-self.ensures
