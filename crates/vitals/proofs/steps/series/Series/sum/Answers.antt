-- `sum` meets its contract: the numbers of each run are samples. Assumes nothing.
use mathlib.Core.Path.{◌≡◌, ap, ◌∙◌, subst}
use mathlib.Core.List.{map}
use Prim.Native.Nat.{◌≤◌}
use lib.ListN.{length}
use native.Mathlib.Omega.{arith}
use borrow.Author.Rules.{sfits_of}
use lib.IntN.{nat_abs}
use mir.Syntax.{w32}
use mir.Facts.{to_z-of_z}
use Rattle.std.proofs.Common.{rules}
use Rattle.std.specs.Prelude.{IfSome}
use Rattle.std.specs.Iterator.Runs.{YieldsRun}
use Rattle.num.specs.Sum.{sum_z}
use Rattle.num.proofs.Abs.{sfits-abs}
use Rattle.vitals.proofs.Summed.{fold_is_sum, small, refs_size}
use Rattle.vitals.proofs.steps.series.Series.sum.Goals as goal

pub sum-requires-clause-fits : goal.sum-requires-clause-fits
unfolding YieldsRun
sum-requires-clause-fits c p seen e =
    let s = c.map.ensures.runs p seen e in
    let q = s.0 in
    let same : p.items ≡ map (λ b. b.now) q.items = s.2.3 (λ b. b.now) (λ x r f' h. search rules) in
    let it = c.iter.ensures.runs q q.seen in
    let rest : q.from.rest.now ≡ c.args.self.samples.now = ap (λ i. i.rest.now) s.1 ∙ c.iter.ensures.rest in
    let size = refs_size q.items (λ k. subst (λ o. IfSome o (λ b. nat_abs b.now ≤ 32768)) (q.gave.1 k) (small (q.at k) q.from.rest.now k (rw rest c.args.self.sized) (it.3 k))) in
    rw (fold_is_sum p.items, same) (sfits-abs {w = w32} _ (omega (arith, size, q.long, it.0, ap length rest, c.args.self.few)))

pub returns : goal.returns
returns c =
    let r = c.sum.ensures.runs tt in
    let p = r.0 in
    let s = c.map.ensures.runs p p.seen r.1 in
    let q = s.0 in
    let same : p.items ≡ map (λ b. b.now) q.items = s.2.3 (λ b. b.now) (λ x r f' h. search rules) in
    let it = c.iter.ensures.runs q q.seen in
    let rest : q.from.rest.now ≡ c.args.self.samples.now = ap (λ i. i.rest.now) s.1 ∙ c.iter.ensures.rest in
    to_z-of_z {w = w32} (sfits_of c.sum.type_inv) ∙ r.3 ∙ fold_is_sum p.items ∙ ap sum_z (same ∙ it.4 (s.2.0 ∙ r.2) ∙ rest)
