-- `Padded::lagged` meets its contract, in blocks and by `num::dot_i16`. Assumes nothing.
use mathlib.Core.Path.{◌≡◌, refl, ap, ◌∙◌}
use mathlib.Core.List.{List}
use Prim.Native.Nat.{◌-◌, ◌≤◌}
use native.Mathlib.Omega.{arith}
use borrow.Author.Rules.{sfits_of}
use lib.ListN.{take, drop, length-take, length-drop}
use lib.IntN.{ℤ}
use mir.Syntax.{w32, w64}
use mir.Val.{SFits, to_z, of_z}
use mir.Facts.{to_z-of_z}
use Rattle.num.specs.Sum.{dot_z, max_terms}
use Rattle.num.proofs.Dot.{dot-all, dot-front}
use Rattle.num.proofs.Read.{read-32-64}
use Rattle.vitals.specs.Correlation.{energy, lagged}
use Rattle.vitals.proofs.Lagged.{sums-fit, zeros-from, lagged-size}
use Rattle.vitals.proofs.Padded.{as-long, lent}
use Rattle.vitals.proofs.steps.padded.Padded.lagged.Goals as goal

pub dot_blocks-requires : goal.dot_blocks-requires
dot_blocks-requires c =
    let room = c.self.inside.room in let n = c.self.inside.n in let zeros = c.self.invariant.1 in
    let long = as-long n room c.args.self.now c.self.told c.self.invariant.0 c.self.view_is in
    let e : energy (take n room) ≤ 2147483647 = rw c.self.view_is (omega (arith, c.requires.1, c.if-energy-le-MOST.true)) in
    rw (lent c.args.lag room c.self.told)
    (omega (arith, c.self.told, c.self.invariant.0), omega (arith, c.self.told, c.self.invariant.0, length-drop c.args.lag room), sums-fit n room (omega (arith, c.self.told, c.self.invariant.0)) zeros c.args.lag e, zeros-from n room (omega (arith, c.self.told, c.self.invariant.0)) zeros c.args.lag (omega (arith, long, c.requires.0)))

pub returns-then-energy-le-MOST : goal.returns-then-energy-le-MOST
returns-then-energy-le-MOST c =
    let room = c.self.inside.room in let n = c.self.inside.n in let lag = c.args.lag in
    let long = as-long n room c.args.self.now c.self.told c.self.invariant.0 c.self.view_is in
    let f : SFits w32 c.dot_blocks.result = sfits_of c.dot_blocks.type_inv in
    let e : c.dot_blocks.result ≡ lagged c.args.self.now lag =
    c.dot_blocks.ensures ∙ ap (dot_z (take (n - lag) room)) (lent lag room c.self.told) ∙ dot-front n lag room (omega (arith, long, c.requires.0)) ∙ ap (λ (s : List ℤ). lagged s lag) c.self.view_is in
    rw (c.from.ensures, to_z-of_z {w = w32} f, read-32-64 f, e) (refl, omega (arith, lagged-size c.args.self.now lag, c.requires.1))

pub returns-else-energy-le-MOST : goal.returns-else-energy-le-MOST
returns-else-energy-le-MOST c =
    let room = c.self.inside.room in let n = c.self.inside.n in let lag = c.args.lag in
    let long = as-long n room c.args.self.now c.self.told c.self.invariant.0 c.self.view_is in
    let e : to_z w64 (of_z w64 c.dot_i16.result) ≡ lagged c.args.self.now lag =
    to_z-of_z {w = w64} (sfits_of c.dot_i16.type_inv) ∙ c.dot_i16.ensures
    ∙ dot-all max_terms (take (n - lag) room) (take (576 - lag) (drop lag room)) (omega (arith, length-take (n - lag) room, c.self.invariant.0))
    ∙ ap (dot_z (take (n - lag) room)) (lent lag room c.self.told) ∙ dot-front n lag room (omega (arith, long, c.requires.0)) ∙ ap (λ (s : List ℤ). lagged s lag) c.self.view_is in
    rw e (refl, omega (arith, lagged-size c.args.self.now lag, c.requires.1))
