-- `add` meets its contract: the first sc amplitudes are added. Assumes nothing.
use mathlib.Core.Path.{refl, ap}
use Prim.Native.Nat.{ℕ, ◌+◌}
use native.Mathlib.Omega.{arith}
use lib.ListN.{length, get_or}
use Rattle.num.proofs.Totals.{none-added, untouched, add_turn}
use Rattle.estimator.proofs.VitalsEstimator.add.Goals as goal

pub loop-sc-init : goal.loop-sc-init
loop-sc-init c = (refl, none-added (length c.args.frame.now) c.args.self.now.acc c.args.frame.now)

pub overflow_add-self : goal.overflow_add-self
overflow_add-self c =
    record { fits = omega (arith, untouched _ _ _ _ _ c.loop-sc.invariant.1, c.requires.2 c.loop-sc.sc (omega (arith, c.requires.0)), c.from.ensures, (c.type_inv.frame c.loop-sc.sc).fits) }

pub loop-sc-preserved : goal.loop-sc-preserved
loop-sc-preserved c = (
  c.loop-sc.invariant.0,
  add_turn _ _ _ _ _ c.loop-sc.invariant.1 _ (omega arith) (omega (arith, c.requires.0)) (omega arith) (ap (λ (a : ℕ). get_or c.loop-sc.self.acc c.loop-sc.sc 0 + a) c.from.ensures),
)
