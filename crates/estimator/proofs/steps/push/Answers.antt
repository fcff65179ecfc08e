-- `push` meets its contract, by the laws of a frame (Frames.antt). Assumes nothing.
use mathlib.Core.Path.{◌≡◌, sym, ap, ◌∙◌, subst}
use mathlib.Core.Bool.{true}
use mathlib.Core.List.{List}
use Prim.Native.Nat.{ℕ, ◌+◌, ◌≤◌, ◌<◌}
use native.Mathlib.Nat.{mod-lt}
use native.Mathlib.Omega.{arith}
use borrow.Author.Tests.{eqb-true, eqb-false}
use lib.ListN.{length}
use Rattle.num.specs.Lists.{plus}
use Rattle.window.specs.Window.{columns, ring_rows}
use Rattle.vitals.specs.declared.config.VitalsConfig.{VitalsConfig}
use Rattle.estimator.specs.Estimator.{or_one}
use Rattle.estimator.specs.State.{legal, in_range, ring_length, begun_at, begun_totals, fed_at, fed_totals, closed_at, rows_with, judged_at, judged_by, Took}
use Rattle.estimator.specs.declared.Progress.{Progress}
use Rattle.estimator.specs.declared.VitalsEstimator.{VitalsEstimator}
use Rattle.estimator.proofs.Facts.{InRange, legal-facts, range-tells}
use Rattle.estimator.proofs.Frames as F
use Rattle.estimator.proofs.Frames.{Given}
use Rattle.estimator.proofs.steps.push.Goals as goal

-- what the call is given
given : (cfg : VitalsConfig) (n : ℕ) (s : VitalsEstimator) (bytes frame : List ℕ)
    → legal cfg n ≡ true → length s.acc ≡ columns → length bytes ≡ ring_length n → in_range cfg n s.progress s.acc ≡ true → length frame ≤ columns → Given cfg n s bytes frame
given cfg n s bytes frame l a w r f =
    record { legal = legal-facts cfg n l; range = (range-tells cfg n s.progress s.acc).0 r; acc-long = a; narrow = f; whole = w }

-- the state with the frame, as `begin` and `add` leave it
abbrev with_frame : (s : VitalsEstimator) (frame : List ℕ) → VitalsEstimator
with_frame s frame = record { progress = fed_at (begun_at s.progress (length frame)); acc = fed_totals s.progress s.acc frame }

fed : (s b t : VitalsEstimator) (frame : List ℕ) → (b.progress ≡ begun_at s.progress (length frame)) × (b.acc ≡ begun_totals s.progress s.acc (length frame))
    → t.progress ≡ fed_at b.progress → t.acc ≡ plus b.acc frame → t ≡ with_frame s frame
fed s b t frame begun e f =
    let p = e ∙ ap fed_at begun.0 in let a = f ∙ ap (λ (l : List ℕ). plus l frame) begun.1 in λ i. record { progress = p i; acc = a i }

module _ (cfg : VitalsConfig) (n : ℕ) (s : VitalsEstimator) (bytes frame : List ℕ) (g : Given cfg n s bytes frame) where
  -- the start is in range
  begun : InRange cfg n (begun_at s.progress (length frame)) (begun_totals s.progress s.acc (length frame))
  begun = F.begun-range cfg n s.progress s.acc g.range g.acc-long (omega (arith, g.legal.least)) (length frame) g.narrow

  few : (begun_at s.progress (length frame)).acc_n ≤ 32766
  few = omega (arith, begun.opened, g.legal.decim)

pub returns-then-is_empty : goal.returns-then-is_empty
returns-then-is_empty c =
    let g = given c.args.plan.config c.args.plan.n c.args.estimator.now c.args.rows.now c.args.frame.now c.args.plan.legal (omega arith) c.requires.rows c.requires.state c.requires.few in
    F.took-none c.args.plan.config c.args.plan.n c.args.time c.args.estimator.now c.args.rows.now c.args.frame.now g (eqb-true _ 0 (sym c.if-is_empty.ensures))

pub add-requires : goal.add-requires
add-requires c =
    let g = given c.args.plan.config c.args.plan.n c.args.estimator.now c.args.rows.now c.args.frame.now c.args.plan.legal (omega arith) c.requires.rows c.requires.state c.requires.few in
    let b = begun c.args.plan.config c.args.plan.n c.args.estimator.now c.args.rows.now c.args.frame.now g in
    let small = few c.args.plan.config c.args.plan.n c.args.estimator.now c.args.rows.now c.args.frame.now g in
    rw (c.begin.ensures.0, c.begin.ensures.1) (c.requires.few, omega (arith, small), λ k h. omega (arith, b.totals k h, small))

pub returns-then-estimator-at_least_one : goal.returns-then-estimator-at_least_one
returns-then-estimator-at_least_one c =
    let s = c.args.estimator.now in
    let g = given c.args.plan.config c.args.plan.n s c.args.rows.now c.args.frame.now c.args.plan.legal (omega arith) c.requires.rows c.requires.state c.requires.few in
    let e = fed s c.begin.new.self c.add.new.self c.args.frame.now c.begin.ensures c.add.ensures.0 c.add.ensures.1 in
    let bound = F.fed-bound c.args.plan.config c.args.plan.n c.args.time s c.args.rows.now c.args.frame.now g c.add.ensures.2 in
    let still : (begun_at s.progress (length c.args.frame.now)).acc_n + 1 < or_one c.args.plan.config.decim =
    rw (ap (λ (t : VitalsEstimator). t.progress.acc_n) e, c.at_least_one.ensures.0) at c.if-estimator-at_least_one.true in
    subst (λ (t : VitalsEstimator). Took c.args.plan.config c.args.plan.n c.args.time s c.args.rows.now c.args.frame.now _ t c.args.rows.now) (sym e)
    (F.took-open c.args.plan.config c.args.plan.n c.args.time s c.args.rows.now c.args.frame.now g (eqb-false _ 0 (sym c.if-is_empty.ensures)) bound still)

pub close-requires : goal.close-requires
close-requires c =
    let s = c.args.estimator.now in
    let g = given c.args.plan.config c.args.plan.n s c.args.rows.now c.args.frame.now c.args.plan.legal (omega arith) c.requires.rows c.requires.state c.requires.few in
    let from = begun c.args.plan.config c.args.plan.n s c.args.rows.now c.args.frame.now g in
    let small = few c.args.plan.config c.args.plan.n s c.args.rows.now c.args.frame.now g in
    let e = fed s c.begin.new.self c.add.new.self c.args.frame.now c.begin.ensures c.add.ensures.0 c.add.ensures.1 in
    let bound = F.fed-bound c.args.plan.config c.args.plan.n c.args.time s c.args.rows.now c.args.frame.now g c.add.ensures.2 in
    rw e (record {
      ring = (from.slot, from.most, g.legal.most, F.since-small c.args.plan.config c.args.plan.n c.args.time s c.args.rows.now c.args.frame.now g (omega arith), c.requires.rows, from.narrow);
      bound = (omega arith, omega (arith, small), bound);
    })

pub judge-requires : goal.judge-requires
judge-requires c =
    let s = c.args.estimator.now in
    let g = given c.args.plan.config c.args.plan.n s c.args.rows.now c.args.frame.now c.args.plan.legal (omega arith) c.requires.rows c.requires.state c.requires.few in
    let from = begun c.args.plan.config c.args.plan.n s c.args.rows.now c.args.frame.now g in
    let e = fed s c.begin.new.self c.add.new.self c.args.frame.now c.begin.ensures c.add.ensures.0 c.add.ensures.1 in
    (omega (arith, c.requires.rows), rw c.close.ensures.0 (mod-lt _ (omega (arith, g.legal.least))), rw c.close.ensures.0 (rw e from.narrow))

pub returns : goal.returns
returns c =
    let s = c.args.estimator.now in let cfg = c.args.plan.config in let n = c.args.plan.n in let frame = c.args.frame.now in let bytes = c.args.rows.now in
    let g = given cfg n s bytes frame c.args.plan.legal (omega arith) c.requires.rows c.requires.state c.requires.few in
    let e = fed s c.begin.new.self c.add.new.self frame c.begin.ensures c.add.ensures.0 c.add.ensures.1 in
    let full : or_one cfg.decim ≤ (begun_at s.progress (length frame)).acc_n + 1 = rw (ap (λ (t : VitalsEstimator). t.progress.acc_n) e, c.at_least_one.ensures.0) at c.if-estimator-at_least_one.false in
    let now : c.close.new.self.progress ≡ closed_at n (with_frame s frame).progress = c.close.ensures.0 ∙ ap (λ (t : VitalsEstimator). closed_at n t.progress) e in
    let written : ring_rows n columns c.close.new.rows ≡ rows_with (with_frame s frame).progress (with_frame s frame).acc (ring_rows n columns bytes) =
    c.close.ensures.2 ∙ ap (λ (t : VitalsEstimator). rows_with t.progress t.acc (ring_rows n columns bytes)) e in
    let said : c.judge.result ≡ judged_by cfg n c.args.time (closed_at n (with_frame s frame).progress) (ring_rows n columns c.close.new.rows) =
    c.judge.ensures.2 ∙ ap (λ (p : Progress). judged_by cfg n c.args.time p (ring_rows n columns c.close.new.rows)) now in
    let p = c.judge.ensures.0 ∙ ap (judged_at cfg n) now in let a = c.judge.ensures.1 ∙ c.close.ensures.1 in
    let after : c.judge.new.self ≡ record { progress = judged_at cfg n (closed_at n (with_frame s frame).progress); acc = _ } = λ i. record { progress = p i; acc = a i } in
    rw said
    (subst (λ (t : VitalsEstimator). Took cfg n c.args.time s bytes frame (judged_by cfg n c.args.time (closed_at n (with_frame s frame).progress) (ring_rows n columns c.close.new.rows)) t c.close.new.rows) (sym after)
    (F.took-closed cfg n c.args.time s bytes frame g (eqb-false _ 0 (sym c.if-is_empty.ensures)) full c.close.new.rows (omega (arith, c.requires.rows)) written))
