-- `delta_x16` meets its contract: what the calls ensure, put together. Assumes nothing.
use mir.Facts.{to_z-of_z}
use Rattle.num.proofs.Read.{read-abs}
use mathlib.Core.Path.{◌≡◌, sym, ap, ◌∙◌}
use mathlib.Core.Bool.{Bool, cond}
use Prim.Native.Nat.{◌≤◌}
use native.Mathlib.Omega.{arith}
use lib.IntN.{ℤ, pos, negsuc, nat_abs, ◌-ℤ◌, ◌*ℤ◌}
use lib.Signed.{lt_z, quot_z}
use mir.Syntax.{w32}
use mir.Val.{to_z, of_z}
use Rattle.num.specs.Clamp.{clamp_z}
use Rattle.num.proofs.Clamp.{clamp-size}
use Rattle.num.proofs.Cond.{cond-holds}
use Rattle.vitals.specs.Rate.{bend, vertex}
use borrow.Author.Rules.{sfits_of}
use Rattle.vitals.specs.Steps.{most_summed}
use Rattle.vitals.proofs.Facts.{clamp-is}
use Rattle.vitals.proofs.steps.rate.delta_x16.Goals as goal

-- the bend's sign decides, d being what is read back of it
decided : (a b c d : ℤ) {t : Bool} → d ≡ bend a b c → lt_z d (pos 0) ≡ t → vertex a b c ≡ cond t (clamp_z (negsuc 7) (pos 8) (quot_z ((a -ℤ c) *ℤ pos 8) (bend a b c))) (pos 0)
decided a b c d e p =
    ap (λ (y : Bool). cond y (clamp_z (negsuc 7) (pos 8) (quot_z ((a -ℤ c) *ℤ pos 8) (bend a b c))) (pos 0)) (ap (λ (z : ℤ). lt_z z (pos 0)) (sym e) ∙ p)

vertex-size : (a b c : ℤ) → nat_abs (vertex a b c) ≤ 8
vertex-size a b c =
    cond-holds (λ (z : ℤ). nat_abs z ≤ 8) (lt_z (bend a b c) (pos 0)) _ (pos 0)
    (λ e. clamp-size 7 8 (quot_z ((a -ℤ c) *ℤ pos 8) (bend a b c))) (λ e. omega arith)

sized : (a b c : ℤ) {r : ℤ} → r ≡ vertex a b c → (r ≡ vertex a b c) × (nat_abs r ≤ 8)
sized a b c e = (e, rw e (vertex-size a b c))

-- what the two calls say of values that came in
seen : (a b c r : ℤ) → nat_abs a ≤ most_summed → nat_abs b ≤ most_summed → nat_abs c ≤ most_summed → r ≡ bend (to_z w32 (of_z w32 a)) (to_z w32 (of_z w32 b)) (to_z w32 (of_z w32 c)) → r ≡ bend a b c
seen a b c r ha hb hc e = e ∙ rw (read-abs w32 a (omega arith), read-abs w32 b (omega arith), read-abs w32 c (omega arith))

leant : (a c d r : ℤ) {y : ℤ} → nat_abs a ≤ most_summed → nat_abs c ≤ most_summed → y ≡ d → r ≡ quot_z ((to_z w32 (of_z w32 a) -ℤ to_z w32 (of_z w32 c)) *ℤ pos 8) y → r ≡ quot_z ((a -ℤ c) *ℤ pos 8) d
leant a c d r ha hc q e = e ∙ rw (read-abs w32 a (omega arith), read-abs w32 c (omega arith), q)

pub returns-then-d-lt0 : goal.returns-then-d-lt0
returns-then-d-lt0 c =
    let e = to_z-of_z (sfits_of {w = w32} {z = c.bend_of-d.result} c.bend_of-d.type_inv) ∙ seen c.args.a c.args.b c.args.c c.bend_of-d.result c.requires.0 c.requires.1 c.requires.2 c.bend_of-d.ensures.0 in
    let q : c.lean.result ≡ quot_z ((c.args.a -ℤ c.args.c) *ℤ pos 8) (bend c.args.a c.args.b c.args.c) =
    leant c.args.a c.args.c (bend c.args.a c.args.b c.args.c) c.lean.result c.requires.0 c.requires.2 e c.lean.ensures in
    sized c.args.a c.args.b c.args.c (
    to_z-of_z (sfits_of {w = w32} {z = c.clamp.result} c.clamp.type_inv) ∙ c.clamp.ensures.value ∙ clamp-is 7 8 (to_z w32 (of_z w32 c.lean.result)) ∙
    ap (clamp_z (negsuc 7) (pos 8)) (to_z-of_z (sfits_of {w = w32} {z = c.lean.result} c.lean.type_inv) ∙ q) ∙
    sym (decided c.args.a c.args.b c.args.c _ e c.if-d-lt0.true)
    )
