-- Every layout has the two points that a line needs, by one test of all layouts. Assumes nothing.
use mathlib.Core.Path.{◌≡◌}
use mathlib.Core.Bool.{true}
use Prim.Native.Nat.{ℕ, ◌+◌, ◌≤◌, ◌<◌}
use native.Mathlib.Omega.{arith}
use lib.Dec.{leb}
use lib.ListN.{length}
use borrow.Author.Tests.{leb-true}
use Rattle.num.proofs.Logic.{both}
use Rattle.num.proofs.Table.{between_le}
use Rattle.csi.specs.Layout.{layouts, known, layout_of, entries_of, up_from}

pub two-points : (tag : ℕ) → known tag ≡ true → 2 ≤ length (entries_of (layout_of tag))
unfolding known layouts layout_of entries_of up_from
two-points tag e =
    let p = both (leb 1 tag) (leb tag (length layouts)) e in
    let low = leb-true 1 tag p.0 in let high : tag < 1 + length layouts = omega (arith, leb-true tag (length layouts) p.1) in
    between_le (λ t. 2) (λ t. length (entries_of (layout_of t))) 1 (length layouts) tt tag low high
