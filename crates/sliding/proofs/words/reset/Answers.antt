-- `sliding::words::reset` meets its contract, by `resets-in-words` of detector. Assumes nothing.
use mathlib.Core.Path.{sym, ◌∙◌}
use Rattle.window.specs.Window.{columns}
use Rattle.detector.proofs.InWords.{resets-in-words}
use Rattle.sliding.proofs.Numbers.{read}
use Rattle.sliding.proofs.words.reset.Goals as goal

pub returns : goal.returns
returns g c =
    let r = read c.args.w c.args.words.now (sym c.state_in.ensures ∙ c.in_ok-state.was) in
    resets-in-words g.S.ColumnSums.kind c.args.w columns c.args.words.now c.args.rows.now (g.S.ColumnSums.firsts c.args.sums.now) (g.S.ColumnSums.seconds c.args.sums.now) r.words
    _ r.state _ _ _ c.from.ensures _ _ c.reset-answer.ensures
