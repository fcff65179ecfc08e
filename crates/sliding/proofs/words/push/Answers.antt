-- `sliding::words::push` meets its contract, by `calls-in-words` of detector. Assumes nothing.
use mathlib.Core.Path.{◌≡◌, refl, sym, ◌∙◌}
use borrow.Author.Rules.{rules}
use Rattle.std.specs.Prelude.{Err}
use Rattle.window.specs.Window.{columns}
use Rattle.detector.proofs.InWords.{calls-in-words}
use Rattle.sliding.proofs.Numbers.{read, unread}
use Rattle.sliding.proofs.words.push.Goals as goal

pub returns-in_err-state : goal.returns-in_err-state
returns-in_err-state g c =
    let is : c.from_residual.result ≡ Err c.in_err-state.field-0.0 = search rules in
    rw is
    (unread g.S.ColumnSums.kind c.args.w columns c.args.words.now c.args.rows.now (g.S.ColumnSums.firsts c.args.sums.now) (g.S.ColumnSums.seconds c.args.sums.now)
    c.args.limits (g.S.ColumnSums.entries c.args.frame.now.entries) c.args.frame.now.count c.args.frame.now.time (sym c.state_in.ensures ∙ c.in_err-state.was))

pub returns : goal.returns
returns g c =
    let r = read c.args.w c.args.words.now (sym c.state_in.ensures ∙ c.in_ok-state.was) in
    calls-in-words g.S.ColumnSums.kind c.args.w columns c.args.words.now c.args.rows.now (g.S.ColumnSums.firsts c.args.sums.now) (g.S.ColumnSums.seconds c.args.sums.now) r.words
    _ r.state _ _ _ c.from.ensures
    c.args.limits (g.S.ColumnSums.entries c.args.frame.now.entries) c.args.frame.now.count c.args.frame.now.time _ _ _ _ _ _ c.push-answer.ensures refl refl
