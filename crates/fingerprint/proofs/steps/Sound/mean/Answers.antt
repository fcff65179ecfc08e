-- `fingerprint::steps::Sound::mean` meets its contract. Assumes nothing.
use native.Mathlib.Omega.{arith}
use Rattle.num.proofs.Sum.{mean-le}
use Rattle.fingerprint.proofs.Good.{facts}
use Rattle.fingerprint.proofs.steps.Sound.mean.Goals as goal

pub overflow_cast-result : goal.overflow_cast-result
overflow_cast-result c =
    let f = facts c.args.self.baseline c.args.self.good in
    omega (arith, mean-le 4294967295 c.from.result c.args.self.baseline.sum (omega (arith, f.bounded)))
