-- `totals_fit` meets its contract: the library's test of each element, as one by number. Assumes nothing.
use mathlib.Core.Logic.{◌↔◌}
use Prim.Native.Nat.{ℕ, ◌*◌, ◌≤◌}
use native.Mathlib.Omega.{arith}
use Rattle.std.specs.Prelude.{IsTrue}
use Rattle.std.specs.List.{All}
use Rattle.std.proofs.Common.{rules}
use Rattle.std.proofs.lemmas.List.Elements.{All-get_or, All-from_get_or}
use Rattle.num.proofs.Tests.{tells-same}
use Rattle.estimator.proofs.Facts.{Bounded, bounded_tells}
use Rattle.estimator.proofs.steps.totals_fit.Goals as goal

pub returns : goal.returns
returns c =
    let fits : ℕ → Type 0 = λ total. total ≤ c.args.frames * 65535 in
    let acc = c.args.acc.now in
    let e : IsTrue c.all.result ↔ All fits acc = search rules in
    tells-same _ _ (λ t k h. All-get_or fits acc k 0 (omega (arith, c.told-acc)) (e.0 t), λ (b : Bounded c.args.frames acc). e.1 (All-from_get_or fits acc 0 (λ k h. b k (omega (arith, c.told-acc))))) (bounded_tells c.args.frames acc)
