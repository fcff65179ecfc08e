-- `Padded::correlation` meets its contract. Assumes nothing.
use mathlib.Core.Path.{◌≡◌, ◌∙◌}
use borrow.Author.Rules.{sfits_of}
use mir.Syntax.{w32, w64}
use mir.Val.{to_z, of_z}
use mir.Facts.{to_z-of_z}
use Rattle.vitals.proofs.Lagged.{corr-size}
use Rattle.vitals.specs.Correlation.{corr_of}
use Rattle.vitals.proofs.steps.padded.Padded.correlation.Goals as goal

pub returns : goal.returns
unfolding corr_of
returns c =
    let s = c.args.self.now in
    let e : to_z w32 (of_z w32 c.rho.result) ≡ corr_of s c.args.lag =
    to_z-of_z {w = w32} (sfits_of c.rho.type_inv) ∙ c.rho.ensures
    ∙ rw (to_z-of_z {w = w64} (sfits_of c.lagged.type_inv), c.lagged.ensures.0, c.requires.2, c.requires.1) in
    (e, rw e (corr-size s c.args.lag))
