-- `Padded::energy` meets its contract. Assumes nothing.
use mathlib.Core.Path.{◌≡◌, ap, ◌∙◌}
use native.Mathlib.Omega.{arith}
use borrow.Author.Rules.{sfits_of}
use lib.ListN.{take, length-take}
use lib.IntN.{pos}
use mir.Syntax.{w64}
use mir.Val.{to_z, of_z}
use mir.Facts.{to_z-of_z}
use Rattle.num.specs.Sum.{max_terms}
use Rattle.num.proofs.Sum.{dot-first}
use Rattle.num.proofs.Dot.{dot-self-pos}
use Rattle.vitals.specs.Correlation.{energy}
use Rattle.vitals.proofs.Lagged.{energy-size}
use Rattle.vitals.proofs.steps.padded.Padded.energy.Goals as goal

value : (c : goal.After-sum_sq_i16) → to_z w64 (of_z w64 c.sum_sq_i16.result) ≡ pos (energy (take c.self.inside.n c.self.inside.room))
value c =
    let s = take c.self.inside.n c.self.inside.room in
    to_z-of_z {w = w64} (sfits_of c.sum_sq_i16.type_inv) ∙ c.sum_sq_i16.ensures ∙ dot-first max_terms s s (omega (arith, length-take c.self.inside.n c.self.inside.room, c.self.invariant.0)) ∙ dot-self-pos s

pub overflow_cast-result : goal.overflow_cast-result
overflow_cast-result c =
    let e = energy-size c.self.inside.n c.self.inside.room c.self.invariant.0 c.self.invariant.2 in
    rw (value c) (tt, record { fits = omega arith })

pub returns : goal.returns
returns c =
    rw (value c) (ap energy c.self.view_is, energy-size c.self.inside.n c.self.inside.room c.self.invariant.0 c.self.invariant.2)
