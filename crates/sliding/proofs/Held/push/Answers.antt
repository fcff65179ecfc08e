-- `sliding::Held::push` meets its contract. Assumes nothing.
use mathlib.Core.Path.{◌≡◌, sym, ◌∙◌}
use native.Mathlib.Omega.{arith}
use borrow.Author.Rules.{rules}
use Rattle.std.specs.Prelude.{Err}
use Rattle.window.specs.Window.{columns}
use Rattle.sliding.proofs.Calls.{passed, refused}
use Rattle.sliding.proofs.Held.push.Goals as goal

pub returns-in_err-check : goal.returns-in_err-check
returns-in_err-check g c =
    let is : c.from_residual.result ≡ Err c.in_err-check.field-0.0 = search rules in
    rw is
    (refused g.S.ColumnSums.kind c.args.w columns c.args.self.now.state c.args.rows.now (g.S.ColumnSums.firsts c.args.self.now.sums) (g.S.ColumnSums.seconds c.args.self.now.sums)
    c.args.limits (g.S.ColumnSums.entries c.args.frame.now.entries) c.args.frame.now.count c.args.frame.now.time (sym c.check.ensures ∙ c.in_err-check.was))

pub push-requires : goal.push-requires
push-requires g c =
    let p = passed g.S.ColumnSums.kind c.args.w columns c.args.self.now.state c.args.rows.now (g.S.ColumnSums.firsts c.args.self.now.sums) (g.S.ColumnSums.seconds c.args.self.now.sums) (sym c.check.ensures ∙ c.in_ok-check.was) in
    (search rules, (p.valid, omega (arith, c.if-frame-gt-COLUMNS.false)))
