-- `room::sample::calibrate` meets its contract. Assumes nothing.
use mathlib.Core.Path.{◌≡◌, sym, ap, ◌∙◌}
use borrow.Author.Rules.{rules}
use Rattle.std.specs.Prelude.{Err}
use Rattle.unit.specs.Records.{calibrated}
use Rattle.room_sensing.specs.Sensing.{tag_of, bytes_refusal}
use Rattle.room.proofs.Kept.{kept-is, kept-baseline}
use Rattle.room.proofs.Sampled.{refused-so, calibrated-so, full-so}
use Rattle.room.proofs.sample.calibrate.Goals as goal

pub returns-in_err-sample : goal.returns-in_err-sample
returns-in_err-sample c =
    let is : c.from_residual.result ≡ Err c.in_err-sample.field-0.0 = search rules in
    λ σ rows e G. rw is (refused-so σ c.args.s.now rows c.args.body.now G calibrated c.in_err-sample.field-0.0 c.in_err-sample.ensures.number)

pub invariant_of-before : goal.invariant_of-before
invariant_of-before c =
    let k = kept-is c.args.s.now c.args.body.now c.keep_for.ensures (c.in_ok-sample.sample.tag_is ∙ ap tag_of c.in_ok-sample.ensures.judged) in
    record { good = rw k (kept-baseline c.args.s.now _ c.requires) }

pub returns-then-before-ge-MAX_FRAMES : goal.returns-then-before-ge-MAX_FRAMES
returns-then-before-ge-MAX_FRAMES c = λ σ rows e G.
    let b = c.in_ok-sample.ensures.judged in
    let fine = ap bytes_refusal (sym b) ∙ c.in_ok-sample.sample.fine in
    let k = kept-is c.args.s.now c.args.body.now c.keep_for.ensures (c.in_ok-sample.sample.tag_is ∙ ap tag_of b) in
    full-so σ c.args.s.now rows c.args.body.now G e fine (rw (sym k) c.if-before-ge-MAX_FRAMES.true)

pub returns : goal.returns
returns c = λ σ rows e G.
    let b = c.in_ok-sample.ensures.judged in
    let fine = ap bytes_refusal (sym b) ∙ c.in_ok-sample.sample.fine in
    let k = kept-is c.args.s.now c.args.body.now c.keep_for.ensures (c.in_ok-sample.sample.tag_is ∙ ap tag_of b) in
    rw (c.mean.ensures, k)
    (calibrated-so σ c.args.s.now rows c.args.body.now G e fine c.calibrate-after.result.baseline (rw (sym k) c.if-before-ge-MAX_FRAMES.false)
    (c.calibrate-after.ensures ∙ rw (c.variance_in.ensures, k, b)) c.calibrate-after.result.good)
