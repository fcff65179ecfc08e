-- `phase::Angles::phases` meets its contract. Assumes nothing.
use mathlib.Core.Path.{ap, ◌∙◌}
use Rattle.std.proofs.Common.{rules}
use Rattle.refusal.specs.Refusal.{answered_number}
use Rattle.phase.proofs.Answers.{outside, enough, angles-number}
use Rattle.phase.proofs.Angles.phases.Goals as goal

pub returns-then-not-contains-clause-answer : goal.returns-then-not-contains-clause-answer
returns-then-not-contains-clause-answer c = outside c.args.self (λ l h. search rules)

pub returns-then-not-contains-clause-number : goal.returns-then-not-contains-clause-number
returns-then-not-contains-clause-number c = ap answered_number (outside c.args.self (λ l h. search rules)) ∙ angles-number c.args.self

pub returns-clause-answer : goal.returns-clause-answer
returns-clause-answer c = enough c.args.self c.line_off.result (search rules) (search rules) (search rules) (search rules)

pub returns-clause-number : goal.returns-clause-number
returns-clause-number c = ap answered_number (enough c.args.self c.line_off.result (search rules) (search rules) (search rules) (search rules)) ∙ angles-number c.args.self
