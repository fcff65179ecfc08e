-- `sliding::steps::sums_match` meets its contract: sums like those of the rows are those of the rows, and others are not. Assumes nothing.
use native.Mathlib.Omega.{arith}
use Rattle.window.specs.Window.{columns}
use Rattle.window.specs.Sums.{is_ring}
use Rattle.window.proofs.Check.{ring-told, ring-no}
use Rattle.num.proofs.Tests.{tells-same}
use Rattle.sliding.proofs.Turns.{alike-told}
use Rattle.sliding.proofs.steps.sums_match.Goals as goal
use Rattle.sliding.proofs.steps.sums_match.Goals.{then-w-gt-MAX_ROWS-via-then-w-gt-MAX_ROWS, then-w-gt-MAX_ROWS-via-else-w-gt-MAX_ROWS+then-rows-w}

pub returns-then-w-gt-MAX_ROWS : goal.returns-then-w-gt-MAX_ROWS
returns-then-w-gt-MAX_ROWS g c =
    let no = ring-no g.S.ColumnSums.kind.sums c.args.w columns c.args.rows.now (g.S.ColumnSums.firsts c.args.carried.now) (g.S.ColumnSums.seconds c.args.carried.now) in
    elim c.then-w-gt-MAX_ROWS.branch [
      | then-w-gt-MAX_ROWS-via-then-w-gt-MAX_ROWS wide ↦ no (λ ring. omega (arith, ring.small, wide.if-w-gt-MAX_ROWS.true))
      | then-w-gt-MAX_ROWS-via-else-w-gt-MAX_ROWS+then-rows-w other ↦ no (λ ring. other.if-rows-w.true ring.whole)
    ]

pub returns : goal.returns
returns g c =
    tells-same c.same.result (is_ring g.S.ColumnSums.kind.sums c.args.w columns c.args.rows.now (g.S.ColumnSums.firsts c.args.carried.now) (g.S.ColumnSums.seconds c.args.carried.now))
    (alike-told g.S.ColumnSums.kind.sums c.args.w columns c.args.rows.now c.sums-own.ensures c.if-w-gt-MAX_ROWS.false c.if-rows-w.false c.same.ensures)
    (ring-told g.S.ColumnSums.kind.sums c.args.w columns c.args.rows.now _ _)
