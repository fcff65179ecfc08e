-- `vectors::tables::SinTable::unit_vector` meets its contract. Assumes nothing.
use mathlib.Core.Path.{◌≡◌, ◌∙◌}
use native.Mathlib.Omega.{arith}
use lib.ListN.{get_or}
use Rattle.std.proofs.Common.{rules, ◌-◌}
use Rattle.vectors.specs.Tables.{sin_quarter}
use Rattle.vectors.specs.Vector.{quarter, step, cos_at, sin_at}
use Rattle.vectors.proofs.Quarters.{quarter-on}
use Rattle.vectors.proofs.tables.SinTable.unit_vector.Goals as goal

pub returns : goal.returns
unfolding cos_at sin_at
returns c =
    let b = c.args.bits in
    let s : c.entry-s.result ≡ get_or sin_quarter (step b) 0 = search rules in
    let c' : c.entry-c.result ≡ get_or sin_quarter (256 - step b) 0 = search rules in
    let cos : c.sine_in.result ≡ cos_at b = c.sine_in.ensures ∙ quarter-on (quarter b) c.entry-s.result c.entry-c.result (omega arith) ∙ rw (s, c') in
    let sin : c.sine_in-2.result ≡ sin_at b = c.sine_in-2.ensures ∙ rw (s, c') in
    search rules
