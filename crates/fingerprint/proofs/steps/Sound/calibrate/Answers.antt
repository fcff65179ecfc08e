-- `fingerprint::steps::Sound::calibrate` meets its contract. Assumes nothing.
use native.Mathlib.Omega.{arith}
use Rattle.fingerprint.proofs.Good.{facts, fed-good}
use Rattle.fingerprint.proofs.steps.Sound.calibrate.Goals as goal

pub overflow_add-baseline : goal.overflow_add-baseline
overflow_add-baseline c = let f = facts c.args.self.baseline c.args.self.good in omega arith

pub invariant_of-result : goal.invariant_of-result
invariant_of-result c = record { good = rw c.from.ensures (fed-good c.args.self.baseline c.args.variance c.args.self.good c.requires (omega arith)) }
