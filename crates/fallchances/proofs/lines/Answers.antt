-- The total is a power of four, 4^24 at most.
use Rattle.std.proofs.Common.{arith, ℕ, ◌≡◌, ◌<◌, ◌≤◌, ◌^◌}
use Rattle.std.proofs.Math.Nat.{pow-zero, pow-le-pow_right}
use Rattle.fallchances.proofs.lines.Goals as goal

within : (n : ℕ) → n ≤ 24 → (0 < 4 ^ n) × (4 ^ n ≤ 4 ^ 24)
within n l =
    let z : 4 ^ 0 ≡ 1 = pow-zero 4 in
    let a : 4 ^ 0 ≤ 4 ^ n = pow-le-pow_right {n = 4} (omega arith) (let h : 0 ≤ n = omega arith in h) in
    (omega arith, pow-le-pow_right {n = 4} (omega arith) l)

pub pow-total-requires : goal.pow-total-requires
pow-total-requires g c = let w = within c.args.frames c.requires in omega (arith, w.1)

pub invariant_of-line : goal.invariant_of-line
invariant_of-line g c = rw c.pow-total.ensures (record { some = (within c.args.frames c.requires).0 })
