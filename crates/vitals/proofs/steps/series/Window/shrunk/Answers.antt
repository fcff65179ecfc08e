-- `shrunk` meets its contract. Assumes nothing.
use mathlib.Core.Path.{◌≡◌, ◌∙◌}
use mir.Facts.{to_z-of_z}
use mir.Syntax.{w32}
use Rattle.std.proofs.Common.{rules}
use Rattle.vitals.specs.Series.{at}
use Rattle.vitals.proofs.Windows.{taken, taken_fits, shorter}
use Rattle.vitals.proofs.steps.series.Window.shrunk.Goals as goal

pub overflow_sub-result : goal.overflow_sub-result
overflow_sub-result c =
    let w = c.args.self in let x = w.series.samples.now in
    let e : c.from.result ≡ at x w.lo = c.from.ensures ∙ search rules in
    taken_fits x w.lo w.hi w.sum w.slid w.series.few w.series.sized w.lo c.from.result e

pub invariant_of-result : goal.invariant_of-result
invariant_of-result c =
    let w = c.args.self in let x = w.series.samples.now in
    let e : c.from.result ≡ at x w.lo = c.from.ensures ∙ search rules in
    let f = taken_fits x w.lo w.hi w.sum w.slid w.series.few w.series.sized w.lo c.from.result e in
    record { slid = shorter x w.lo w.hi w.sum w.slid w.series.few w.series.sized _ (to_z-of_z {w = w32} f ∙ taken x w.lo w.hi w.sum w.slid w.series.few w.series.sized w.lo c.from.result e) c.requires }
