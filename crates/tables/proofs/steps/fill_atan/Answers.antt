-- `tables::steps::fill_atan` meets its contract. Assumes nothing.
use mathlib.Core.Path.{◌≡◌}
use Prim.Native.Nat.{suc, ◌-◌}
use native.Mathlib.Omega.{arith}
use Rattle.std.proofs.Common.{rules}
use Rattle.num.proofs.Lists.{built}
use Rattle.tables.specs.Tables.{atan_entry, table_of}
use Rattle.tables.proofs.steps.fill_atan.Goals as goal

pub returns : goal.returns
unfolding table_of
returns g c =
    let whole : suc (g.row.N - 1) ≡ g.row.N = omega (arith, c.requires) in
    let (long, each) = c.fill.ensures in
    rw whole (built 0 _ g.row.N (atan_entry (g.row.N - 1)) long (λ k h. let e = each k h in search rules))
