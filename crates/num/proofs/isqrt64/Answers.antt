-- `num::isqrt64` meets its contract: an estimate for the upper half of the shifted word, made finer by a division, is one for the whole,
-- and shifted down it is one for the word. Assumes nothing.
use Prim.Native.Nat.{ℕ, ◌+◌, ◌*◌, ◌/◌, ◌^◌, ◌≤◌, ◌<◌}
use native.Mathlib.Omega.{arith}
use lib.Dec.{lit<}
use Rattle.num.specs.Root.{Near}
use Rattle.num.proofs.Root.{root-unique}
use Rattle.num.proofs.Estimate.{near-finer, near-least}
use Rattle.num.proofs.Scale.{scaled, scaled-least, near-unscaled}
use Rattle.num.proofs.isqrt64.Goals as goal

-- the estimate for the upper half has no leading zero among its sixteen bits
module _ (v b : ℕ) (pos : 0 < v) (fits : v < 2 ^ 64) (near : Near (scaled 64 v / 2 ^ 32) b) where
  half-least : 2 ^ 15 ≤ b
  half-least = near-least (scaled 64 v / 2 ^ 32) b (2 ^ 15) near (omega (arith, scaled-least 64 v pos fits))

  near-whole : Near (scaled 64 v) (2 ^ 15 * b + scaled 64 v / 2 ^ 17 / b)
  near-whole = near-finer (2 ^ 15) b (scaled 64 v) (lit< tt) half-least near

pub returns-then-v-eq0 : goal.returns-then-v-eq0
returns-then-v-eq0 c = root-unique c.args.v 0 (omega arith) (omega arith)

pub near-b-requires : goal.near-b-requires
near-b-requires c = omega (arith, scaled-least 64 c.args.v (omega arith) c.ranges.v.fits)

pub settle-requires : goal.settle-requires
settle-requires c =
    let v : ℕ = c.args.v in
    let b : ℕ = c.near-b.result in
    let pos : 0 < v = omega arith in
    record { v_nonzero = pos; near = near-unscaled 64 v pos c.ranges.v.fits (2 ^ 15 * b + scaled 64 v / 2 ^ 17 / b) (near-whole v b pos c.ranges.v.fits c.near-b.ensures) }
