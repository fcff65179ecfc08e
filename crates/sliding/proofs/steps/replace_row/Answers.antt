-- `sliding::steps::replace_row` meets its contract: the loop of `Turns.Written`. The sums are carried at every turn, so that the range of a column's
-- sums shows each step in range. Assumes nothing.
use mathlib.Core.Path.{◌≡◌, sym, ◌∙◌}
use mathlib.Core.List.{List}
use Prim.Native.Nat.{ℕ, ◌≤◌, ◌<◌}
use native.Mathlib.Omega.{arith}
use borrow.Author.Rules.{rules}
use lib.ListN.{length, take, get_or}
use lib.Seq.{length-take-le, get_or-take}
use Rattle.window.specs.Window.{columns}
use Rattle.window.proofs.Write.{store-end}
use Rattle.sliding.specs.Columns.{Entrywise}
use Rattle.sliding.proofs.Range.{ring-holds}
use Rattle.sliding.proofs.Turns.{write-start, write-turn}
use Rattle.sliding.proofs.steps.replace_row.Goals as goal

-- an entry of the frame
module _ {E : Type 0} {bits : E → ℕ} {entries : List E → List ℕ} (each : Entrywise bits entries) (l : List E) (n : ℕ) (long : length l ≡ columns) (narrow : n ≤ columns) where
  within : (i : ℕ) → i < length (take n l) → i < n
  within i h = omega (arith, length-take-le n l (omega arith))

  entry-is : (i : ℕ) (e : E) → i < length (take n l) → e ≡ get_or (take n l) i e → bits e ≡ get_or (entries l) i 0
  entry-is i e h is = sym (each.each l i e (omega (arith, within i h)) (is ∙ get_or-take n l i e (within i h)))

pub loop-sc-init : goal.loop-sc-init
loop-sc-init g c =
    write-start g.S.ColumnSums.kind.sums g.met.S.ColumnSums.columnwise.lawful c.args.w columns c.args.slot c.args.frame.now.count (g.S.ColumnSums.entries c.args.frame.now.entries) c.args.rows.now
    c.requires.ring (λ i. (c.type_inv.rows i).fits)

pub replace-requires-clause-holds : goal.replace-requires-clause-holds
replace-requires-clause-holds g c =
    let laws = g.met.S.ColumnSums.columnwise in
    let long : length c.args.frame.now.entries ≡ columns = search rules in
    let more : c.loop-sc.sc < c.args.frame.now.count = within g.met.S.ColumnSums.entrywise c.args.frame.now.entries c.args.frame.now.count long c.requires.fits.1 c.loop-sc.sc c.loop-sc-test.true in
    rw c.entry-old.ensures
    (ring-holds g.S.ColumnSums.kind.sums g.S.ColumnSums.In laws.ranged c.args.w columns c.loop-sc.rows c.loop-sc.invariant.bytes c.loop-sc.sc (omega (arith, c.requires.fits))
    laws.lawful _ _ c.loop-sc.invariant.ring c.args.slot c.requires.fits.0)

pub loop-sc-preserved : goal.loop-sc-preserved
loop-sc-preserved g c =
    let each = g.met.S.ColumnSums.entrywise in
    let long : length c.args.frame.now.entries ≡ columns = search rules in
    let more : c.loop-sc.sc < c.args.frame.now.count = within each c.args.frame.now.entries c.args.frame.now.count long c.requires.fits.1 c.loop-sc.sc c.loop-sc-test.true in
    write-turn g.S.ColumnSums.kind.sums g.met.S.ColumnSums.columnwise.lawful c.args.w columns c.args.slot c.args.frame.now.count (g.S.ColumnSums.entries c.args.frame.now.entries) c.args.rows.now
    c.requires.ring.whole c.requires.fits.0 c.requires.fits.1 (each.long c.args.frame.now.entries ∙ long) c.loop-sc.invariant more
    c.put_entry.new.rows c.entry-old.result c.bits-x.result c.entry-old.ensures
    (c.bits-x.ensures ∙ entry-is each c.args.frame.now.entries c.args.frame.now.count long c.requires.fits.1 c.loop-sc.sc c.entry-item.result c.loop-sc-test.true c.entry-item.is)
    c.replace.ensures c.put_entry.ensures (λ i. (c.type_inv.rows i).fits)

pub returns : goal.returns
returns g c =
    let long : length c.args.frame.now.entries ≡ columns = search rules in
    record {
      rows_after =
          store-end c.args.w columns c.args.slot c.args.frame.now.count (g.S.ColumnSums.entries c.args.frame.now.entries) c.args.rows.now c.requires.ring.whole _ _ c.loop-sc.invariant.stored
          (omega (arith, c.loop-sc-test.false, length-take-le c.args.frame.now.count c.args.frame.now.entries (omega (arith, c.requires.fits))));
      ring_after = c.loop-sc.invariant.ring;
    }
