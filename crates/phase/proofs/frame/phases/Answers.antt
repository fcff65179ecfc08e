-- `phase::frame::phases` meets its contract. Assumes nothing.
use mathlib.Core.Path.{◌≡◌, sym, ap, ◌∙◌}
use native.Mathlib.Omega.{arith}
use lib.ListN.{length}
use Rattle.std.specs.Prelude.{Ok}
use Rattle.std.proofs.lemmas.Result.{err_from_is_err_and}
use Rattle.std.proofs.lemmas.Grind.{common_steps}
use Rattle.csi.specs.Layout.{frame_refusal}
use Rattle.phase.proofs.Answers.{phases-pass, phases-stop}
use Rattle.phase.proofs.frame.phases.Goals as goal

pub returns-in_err-check-clause-answer : goal.returns-in_err-check-clause-answer
returns-in_err-check-clause-answer c =
    let p = err_from_is_err_and c.from_residual.result c.from_residual.ensures.1 in
    rw (p.1, p.2) (sym (phases-stop c.args.iq.now c.args.tag c.in_err-check.field-0.0 (sym c.check.ensures.answer ∙ c.in_err-check.was)))

pub returns-clause-answer : goal.returns-clause-answer
returns-clause-answer c =
    let z : frame_refusal (length c.args.iq.now) c.args.tag ≡ 0 = grind (arith, common_steps) in
    ap Ok c.phases.ensures ∙ sym (phases-pass c.args.iq.now c.args.tag z)
