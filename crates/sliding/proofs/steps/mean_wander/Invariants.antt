-- `sliding::steps::mean_wander` meets its contract: the total is that of the columns passed, each below 2 ^ 32. Assumes nothing.
use mathlib.Core.Path.{◌≡◌}
use Prim.Native.Nat.{ℕ, ◌*◌, ◌≤◌, ◌^◌}
use lib.ListN.{get_or}
use Rattle.window.specs.Sums.{sum_to}
use Rattle.sliding.proofs.steps.mean_wander.Given as goal

abbrev pub invariant-loop-sc : goal.invariant-loop-sc
invariant-loop-sc g l =
    let none = g.S.ColumnSums.kind.sums.none in
    (l.total ≡ sum_to l.sc (λ (k : ℕ). g.S.ColumnSums.term l.rows.w (get_or (g.S.ColumnSums.firsts l.carried) k none) (get_or (g.S.ColumnSums.seconds l.carried) k none)))
    × (l.total ≤ 2 ^ 32 * l.sc)
