-- `Padded::highpass_of` meets its contract. Assumes nothing.
use mathlib.Core.Path.{◌≡◌, sym, ap, ◌∙◌}
use lib.ListN.{length}
use Rattle.vitals.specs.Steps.{Samples}
use Rattle.vitals.proofs.Padded.{as-long, put-zeros, put-samples, length-highpassed, highpassed-samples}
use Rattle.vitals.proofs.steps.padded.Padded.highpass_of.Goals as goal

pub invariant_of-self : goal.invariant_of-self
invariant_of-self c =
    let x = c.series.result.samples.now in let room = c.self.inside.room in let n = c.self.inside.n in let out = c.highpass.new.out in
    let e = c.highpass.ensures in
    let long : length out ≡ n = ap length e ∙ length-highpassed c.args.m x ∙ ap length c.series.ensures ∙ sym c.requires ∙ as-long n room c.args.self.now c.self.told c.self.invariant.0 c.self.view_is in
    let small : Samples out = rw e (highpassed-samples c.args.m x) in
    (c.self.invariant.0, put-zeros n room out c.self.invariant.1 c.self.invariant.2 long, put-samples n room out c.self.invariant.1 c.self.invariant.2 long small)
