-- `add_column` meets its contract. Assumes nothing.
use mathlib.Core.Path.{sym, ap, ◌∙◌}
use native.Mathlib.Omega.{arith}
use lib.ListN.{length}
use Rattle.vitals.proofs.Padded.{length-centred, length-highpassed}
use Rattle.estimator.proofs.column.add_column.Goals as goal

pub highpass_of-requires : goal.highpass_of-requires
highpass_of-requires c = c.requires.n_bound.2 ∙ sym (ap length c.centre.ensures ∙ length-centred c.read_column.new.out ∙ c.read_column.ensures.long)

pub add-requires : goal.add-requires
add-requires c =
    let a = ap length c.centre.ensures ∙ length-centred c.read_column.new.out ∙ c.read_column.ensures.long in
    let b = ap length c.highpass_of.ensures ∙ length-highpassed c.args.m c.centre.new.self ∙ a in
    let q = c.requires.sums in (omega (arith, b, q.0), omega (arith, q.1, c.requires.n_bound.0, c.args.view.narrow))

pub add-requires-2 : goal.add-requires-2
add-requires-2 c =
    let a = ap length c.centre.ensures ∙ length-centred c.read_column.new.out ∙ c.read_column.ensures.long in
    let q = c.requires.sums in (omega (arith, a, q.0), omega (arith, q.1, c.requires.n_bound.0, c.args.view.narrow))

pub returns-then-m-gt1-clause-long : goal.returns-then-m-gt1-clause-long
returns-then-m-gt1-clause-long c =
    let a = ap length c.centre.ensures ∙ length-centred c.read_column.new.out ∙ c.read_column.ensures.long in
    (a, ap length c.highpass_of.ensures ∙ length-highpassed c.args.m c.centre.new.self ∙ a)

pub returns-clause-long : goal.returns-clause-long
returns-clause-long c = (ap length c.centre.ensures ∙ length-centred c.read_column.new.out ∙ c.read_column.ensures.long, c.requires.n_bound.2)
