-- `lower` meets its contract: each sample passed is less the mean. Assumes nothing.
use mathlib.Core.Path.{◌≡◌, sym, ap, ◌∙◌}
use Prim.Native.Nat.{ℕ}
use native.Mathlib.Omega.{arith}
use borrow.Author.Rules.{sfits_of, rules}
use lib.ListN.{length-map, length-set}
use lib.Seq.{ext_get_or, get_or-set_other}
use lib.IntN.{ℤ, pos, ◌-ℤ◌}
use mir.Syntax.{w16, w32}
use mir.Val.{to_z, of_z}
use mir.Facts.{to_z-of_z}
use Rattle.num.proofs.Lists.{map_at}
use Rattle.num.proofs.Stored.{one_more}
use Rattle.vitals.specs.Series.{at, clamp16}
use Rattle.vitals.proofs.steps.series.lower.Goals as goal

pub loop-v-preserved : goal.loop-v-preserved
loop-v-preserved c =
    let x = c.loop-v.x in let i = c.loop-v.v-index in let inv = c.loop-v.invariant in
    let e : c.off.result ≡ clamp16 (at x i -ℤ to_z w32 (of_z w32 c.args.mean)) = c.off.ensures ∙ search rules in (
      rw length-set inv.0,
      one_more (λ (k : ℕ) (z : ℤ). z ≡ clamp16 (at c.args.x.now k -ℤ to_z w32 (of_z w32 c.args.mean))) x i _ (pos 0) (omega arith) inv.1
          (to_z-of_z {w = w16} (sfits_of c.off.type_inv) ∙ e ∙ ap (λ (v : ℤ). clamp16 (v -ℤ to_z w32 (of_z w32 c.args.mean))) (inv.2 i (omega arith))),
      λ k h. get_or-set_other x i k _ (pos 0) (λ (q : k ≡ i). omega arith) ∙ inv.2 k (omega arith),
    )

pub returns : goal.returns
returns c =
    let mean = to_z-of_z {w = w32} {z = c.args.mean} c.ranges.mean in
    let x = c.args.x.now in let f : ℤ → ℤ = λ v. clamp16 (v -ℤ c.args.mean) in
    ext_get_or (pos 0) c.loop-v.x _ (c.loop-v.invariant.0 ∙ sym (length-map x f)) (λ k h. (rw mean at (c.loop-v.invariant.1 k (omega arith))) ∙ sym (map_at f x k (pos 0) (pos 0) (omega arith)))
