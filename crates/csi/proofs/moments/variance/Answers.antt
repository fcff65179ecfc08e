-- `csi::moments::variance` meets its contract: each difference is at most 65,535, so the mean of their squares fits 32 bits.
-- Assumes nothing.
use mathlib.Core.Path.{◌≡◌}
use mathlib.Core.List.{List, map}
use Prim.Native.Nat.{ℕ, ◌≤◌, ◌*◌}
use native.Mathlib.Omega.{arith}
use native.Mathlib.Nat.{mul-le-mul}
use lib.ListN.{length, get_or, length-map}
use Rattle.std.proofs.lemmas.Grind.{common_steps}
use Rattle.std.proofs.lemmas.List.{get_or-map}
use Rattle.num.specs.Sum.{total, apart, square}
use Rattle.num.proofs.Sum.{mean-le, total-le}
use Rattle.csi.proofs.Sums.{sum_by_total}
use Rattle.csi.proofs.moments.variance.Goals as goal

-- the squares of differences of 16 bits
squares-le : (xs : List ℕ) (mean : ℕ) → ((k : ℕ) → get_or xs k 0 ≤ 65535) → mean ≤ 65535
    → total (map (λ x. square (apart x mean)) xs) ≤ 65535 * 65535 * length xs
squares-le xs mean fit m =
    let f : ℕ → ℕ = λ x. square (apart x mean) in
    let l = length-map xs f in
    let each : (x : ℕ) → x ≤ 65535 → square (apart x mean) ≤ 65535 * 65535 = λ x h. let d : apart x mean ≤ 65535 = omega arith in mul-le-mul d d in
    omega (arith, l, total-le (65535 * 65535) (map f xs) (λ k h. rw (get_or-map f xs k 0 0 (omega arith)) (each (get_or xs k 0) (fit k))))

pub overflow_cast-result : goal.overflow_cast-result
overflow_cast-result c =
    let xs = c.args.amplitudes.now in
    let s : c.sum-sum.result ≡ total (map (λ x. square (apart x c.args.mean)) xs) = grind (arith, common_steps, sum_by_total) in
    let l = squares-le xs c.args.mean (λ k. omega (arith, c.type_inv.amplitudes k)) (omega arith) in
    omega (arith, mean-le (65535 * 65535) (length xs) c.sum-sum.result (omega (arith, s, l)))
