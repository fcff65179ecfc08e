-- `sliding::Held::new` meets its contract. Assumes nothing.
use mathlib.Core.Path.{refl, sym, ◌∙◌}
use lib.ListN.{replicate}
use Rattle.window.specs.Window.{columns}
use Rattle.window.specs.Sums.{total_by}
use Rattle.detector.proofs.Calls.{window-passed, sized, cleared, new-begun}
use Rattle.sliding.proofs.Held.new.Goals as goal

pub returns : goal.returns
returns g c =
    let K = g.S.ColumnSums.kind in
    let window = window-passed c.args.w (sym c.check_window.ensures ∙ c.in_ok-check_window.was) in
    let size = sized c.args.w window in
    new-begun K c.args.w columns c.args.rows.now window c.if-rows-w.false c.new.ensures
    (rw (c.clear.ensures, c.zeros.ensures.firsts, c.zeros.ensures.seconds)
    (cleared K c.args.w columns c.args.rows.now size.some size.small c.if-rows-w.false
    (total_by K.sums.add K.sums.none K.sums.f (replicate c.args.w 0)) (total_by K.sums.add K.sums.none K.sums.g (replicate c.args.w 0)) refl refl))
