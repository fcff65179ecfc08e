-- `grown` meets its contract. Assumes nothing.
use mathlib.Core.Path.{◌≡◌, ◌∙◌}
use mir.Facts.{to_z-of_z}
use mir.Syntax.{w32}
use Rattle.std.proofs.Common.{rules}
use Rattle.vitals.specs.Series.{at}
use Rattle.vitals.proofs.Windows.{added, added_fits, longer}
use Rattle.vitals.proofs.steps.series.Window.grown.Goals as goal

pub overflow_add-result : goal.overflow_add-result
overflow_add-result c =
    let w = c.args.self in let x = w.series.samples.now in
    let e : c.from.result ≡ at x w.hi = c.from.ensures ∙ search rules in
    added_fits x w.lo w.hi w.sum w.slid w.series.few w.series.sized w.hi c.from.result e

pub invariant_of-result : goal.invariant_of-result
invariant_of-result c =
    let w = c.args.self in let x = w.series.samples.now in
    let e : c.from.result ≡ at x w.hi = c.from.ensures ∙ search rules in
    let f = added_fits x w.lo w.hi w.sum w.slid w.series.few w.series.sized w.hi c.from.result e in
    record { slid = longer x w.lo w.hi w.sum w.slid w.series.few w.series.sized _ (to_z-of_z {w = w32} f ∙ added x w.lo w.hi w.sum w.slid w.series.few w.series.sized w.hi c.from.result e) (search rules) }
