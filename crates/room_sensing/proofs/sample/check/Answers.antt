-- `room_sensing::sample::check` meets its contract. Assumes nothing.
use mathlib.Core.Path.{◌≡◌, sym, ap, ◌∙◌}
use mathlib.Core.List.{List}
use borrow.Author.Rules.{rules}
use lib.ListN.{length}
use Prim.Native.Nat.{ℕ}
use Rattle.std.specs.Prelude.{Result, Err}
use Rattle.refusal.specs.Refusal.{answered_number}
use Rattle.refusal.specs.declared.Refusal.{Refusal}
use Rattle.csi.specs.Layout.{frame_check}
use Rattle.csi_stream.specs.declared.Sample.{Sample}
use Rattle.room_sensing.specs.Sensing.{iq_of, sample_check}
use Rattle.room_sensing.proofs.Checked.{Decoded, check-number, no-sample, a-sample}
use Rattle.room_sensing.proofs.sample.check.Goals as goal

-- one that decodes is answered as its frame is
framed : (body iq : List ℕ) {s : Sample} (r : Result (Unit {0}) Refusal) → r ≡ frame_check (length iq) s.layout → iq ≡ iq_of body → Decoded body s → r ≡ sample_check body
framed body iq r e ei d = rw ei at e ∙ sym d.check

pub returns-in_err-sample-clause-answer : goal.returns-in_err-sample-clause-answer
returns-in_err-sample-clause-answer c =
    let is : c.from_residual.result ≡ Err c.in_err-sample.field-0.0 = search rules in
    rw is (no-sample c.args.body.now c.in_err-sample.field-0.0 c.in_err-sample.ensures.answer)

pub returns-in_err-sample-clause-number : goal.returns-in_err-sample-clause-number
returns-in_err-sample-clause-number c =
    let is : c.from_residual.result ≡ Err c.in_err-sample.field-0.0 = search rules in
    rw is (ap (answered_number {A = Unit {0}}) (no-sample c.args.body.now c.in_err-sample.field-0.0 c.in_err-sample.ensures.answer) ∙ check-number c.args.body.now)

pub returns-in_err-check-clause-answer : goal.returns-in_err-check-clause-answer
returns-in_err-check-clause-answer c =
    let is : c.from_residual-in_err-check.result ≡ Err c.in_err-check.field-0.0 = search rules in
    let d = a-sample c.args.body.now c.in_ok-sample.sample _ c.in_ok-sample.ensures.answer in
    rw is (framed c.args.body.now c.in_ok-sample.iq.now (Err c.in_err-check.field-0.0) c.in_err-check.ensures.answer c.in_ok-sample.ensures.part.bytes d)

pub returns-in_err-check-clause-number : goal.returns-in_err-check-clause-number
returns-in_err-check-clause-number c =
    let is : c.from_residual-in_err-check.result ≡ Err c.in_err-check.field-0.0 = search rules in
    let d = a-sample c.args.body.now c.in_ok-sample.sample _ c.in_ok-sample.ensures.answer in
    let e = framed c.args.body.now c.in_ok-sample.iq.now (Err c.in_err-check.field-0.0) c.in_err-check.ensures.answer c.in_ok-sample.ensures.part.bytes d in
    rw is (ap (answered_number {A = Unit {0}}) e ∙ check-number c.args.body.now)

pub invariant_of-result : goal.invariant_of-result
invariant_of-result c =
    let d = a-sample c.args.body.now c.in_ok-sample.sample _ c.in_ok-sample.ensures.answer in
    let e = framed c.args.body.now c.in_ok-sample.iq.now _ c.in_ok-check.ensures.answer c.in_ok-sample.ensures.part.bytes d in
    record {
      fine = sym (check-number c.args.body.now) ∙ ap (answered_number {A = Unit {0}}) (sym e);
      tag_is = rw d.sample;
      time_is = rw d.sample;
      iq_is = c.in_ok-sample.ensures.part.bytes;
    }

pub returns-clause-answer : goal.returns-clause-answer
returns-clause-answer c =
    let d = a-sample c.args.body.now c.in_ok-sample.sample _ c.in_ok-sample.ensures.answer in
    framed c.args.body.now c.in_ok-sample.iq.now _ c.in_ok-check.ensures.answer c.in_ok-sample.ensures.part.bytes d
