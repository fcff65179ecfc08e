-- `Padded::set` meets its contract. Assumes nothing.
use mathlib.Core.Path.{ap, ◌∙◌}
use mathlib.Core.List.{List}
use native.Mathlib.Omega.{arith}
use lib.ListN.{set}
use lib.Seq.{take-set-lt}
use lib.IntN.{ℤ}
use mir.Syntax.{w16}
use mir.Facts.{to_z-of_z}
use Rattle.vitals.proofs.Padded.{as-long}
use Rattle.vitals.proofs.steps.padded.Padded.set.Goals as goal

pub returns : goal.returns
returns c =
    let n = c.self.inside.n in let room = c.self.inside.room in
    let long = as-long n room c.args.self.now c.self.told c.self.invariant.0 c.self.view_is in
    rw (to_z-of_z {w = w16} {z = c.args.v} c.ranges.v)
    (take-set-lt n room c.args.k c.args.v (omega (arith, c.requires, long)) ∙ ap (λ (s : List ℤ). set s c.args.k c.args.v) c.self.view_is)
