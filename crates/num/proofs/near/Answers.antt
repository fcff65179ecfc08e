-- `num::near` meets its contract: the line gives an estimate of the root of the upper eight bits, the first division one of the upper
-- sixteen, and the second one of n. Assumes nothing.
use Prim.Native.Nat.{ℕ, ◌+◌, ◌*◌, ◌/◌, ◌^◌, ◌≤◌, ◌<◌}
use native.Mathlib.Nat.{div-div-eq-div-mul}
use native.Mathlib.Omega.{arith}
use lib.Dec.{lit<}
use Rattle.num.specs.Root.{Near}
use Rattle.num.proofs.Estimate.{near-line, near-finer, near-least}
use Rattle.num.proofs.near.Goals as goal

abbrev first : ℕ → ℕ
first n = (n / 2 ^ 24 + 148) / 24

abbrev second : ℕ → ℕ
second n = 8 * first n + n / 2 ^ 21 / first n

module _ (n : ℕ) (low : 2 ^ 30 ≤ n) (high : n < 2 ^ 32) where
  near-second : Near (n / 2 ^ 16) (second n)
  near-second =
      let upper : Near (n / 2 ^ 24) (first n) = near-line (n / 2 ^ 24) (omega arith) (omega arith) in
      let eight : Near (n / 2 ^ 16 / 2 ^ 8) (first n) = rw (div-div-eq-div-mul n (2 ^ 16) (2 ^ 8)) upper in
      rw (div-div-eq-div-mul n (2 ^ 16) (2 ^ 5)) at (near-finer 8 (first n) (n / 2 ^ 16) (lit< tt) (omega arith) eight)

  second-least : 2 ^ 7 ≤ second n
  second-least = near-least (n / 2 ^ 16) (second n) (2 ^ 7) near-second (omega arith)

pub returns : goal.returns
returns c =
    let n : ℕ = c.args.n in
    near-finer 128 (second n) n (lit< tt) (second-least n c.requires c.ranges.n.fits) (near-second n c.requires c.ranges.n.fits)
