-- `sliding::steps::push` meets its contract, by the law of a whole push (`push-none`, `push-some` of detector). Assumes nothing.
use mathlib.Core.Path.{◌≡◌, refl, sym, ap, ◌∙◌}
use Prim.Native.Nat.{min}
use native.Mathlib.Omega.{arith}
use borrow.Author.Rules.{rules}
use lib.ListN.{length}
use Rattle.window.specs.Window.{columns, ring_rows, window_of}
use Rattle.window.proofs.Mean.{mean-carried}
use Rattle.detector.proofs.Pushes.{begun, push-none, push-some}
use Rattle.sliding.specs.Columns.{wander_by}
use Rattle.sliding.proofs.Range.{ring-range}
use Rattle.sliding.proofs.steps.push.Goals as goal

-- a frame of count 0 changes nothing
pub returns-then-frame-eq0 : goal.returns-then-frame-eq0
returns-then-frame-eq0 g c =
    push-none g.S.ColumnSums.kind c.args.limits c.args.w columns c.args.frame.now.count c.args.frame.now.time c.args.held.now.state c.args.rows.now (g.S.ColumnSums.entries c.args.frame.now.entries)
    (g.S.ColumnSums.firsts c.args.held.now.sums) (g.S.ColumnSums.seconds c.args.held.now.sums) c.requires.valid
    c.verdict_now.result c.if-frame-eq0.true (rw (← g.met.S.ColumnSums.unit) (rw c.UNIT.ensures at c.verdict_now.ensures))

pub settled_state-held-requires-clause-ranges : goal.settled_state-held-requires-clause-ranges
settled_state-held-requires-clause-ranges g c =
    rw c.new-size.ensures
    (ring-range g.S.ColumnSums.kind.sums g.S.ColumnSums.In g.met.S.ColumnSums.columnwise.ranged c.replace_row.ensures.ring_after (λ i. (c.type_inv.rows i).fits))

pub returns : goal.returns
returns g c =
    let K = g.S.ColumnSums.kind in
    let laws = g.met.S.ColumnSums.columnwise in
    let long : length c.args.frame.now.entries ≡ columns = search rules in
    let b = begun c.requires.valid c.requires.count_le_columns c.if-frame-eq0.false c.start_state-start.ensures in
    push-some K c.args.limits c.args.w columns c.args.frame.now.count c.args.frame.now.time c.args.held.now.state c.args.rows.now (g.S.ColumnSums.entries c.args.frame.now.entries)
    (g.S.ColumnSums.firsts c.args.held.now.sums) (g.S.ColumnSums.seconds c.args.held.now.sums) c.requires.valid
    c.requires.count_le_columns c.if-frame-eq0.false (g.met.S.ColumnSums.entrywise.long c.args.frame.now.entries ∙ long) refl c.start_state-start.ensures
    c.replace_row.ensures.ring_after c.replace_row.ensures.rows_after c.next_state-fed.ensures
    (wander_by K g.S.ColumnSums.term c.args.w c.args.frame.now.count (g.S.ColumnSums.firsts c.replace_row.new.carried) (g.S.ColumnSums.seconds c.replace_row.new.carried)) (omega arith)
    (λ next. ap (min K.top) (mean-carried K.sums laws.lawful g.S.ColumnSums.term c.replace_row.ensures.ring_after next c.args.frame.now.count c.requires.count_le_columns b.some-rows)
    ∙ sym (laws.wander (window_of next c.args.w c.args.frame.now.count (ring_rows c.args.w columns c.replace_row.new.rows))))
    (rw c.new-size.ensures at c.settled_state-held.ensures) (rw (← g.met.S.ColumnSums.unit) (rw c.UNIT-2.ensures at c.verdict_now-2.ensures))
