-- `room::sample::watch` meets its contract. Assumes nothing.
use mathlib.Core.Path.{◌≡◌, sym, ap, subst, ◌∙◌}
use mathlib.Core.List.{List}
use Prim.Native.Nat.{ℕ}
use borrow.Author.Rules.{rules}
use Rattle.std.specs.Prelude.{Err}
use Rattle.unit.specs.Records.{watched}
use Rattle.room_sensing.specs.Sensing.{tag_of, bytes_refusal}
use Rattle.room_state.specs.Rings.{rings_of}
use Rattle.room_state.specs.State.{GoodState}
use Rattle.room_watch.specs.Watching.{Feeds}
use Rattle.room.proofs.Kept.{kept-is, kept-good}
use Rattle.room.proofs.Sampled.{refused-so, watched-so}
use Rattle.room.proofs.sample.watch.Goals as goal

pub returns-in_err-sample : goal.returns-in_err-sample
returns-in_err-sample c =
    let is : c.from_residual.result ≡ Err c.in_err-sample.field-0.0 = search rules in
    let w = refused-so c.args.settings.now.settings c.args.s.now c.args.rows.now c.args.body.now c.requires watched c.in_err-sample.field-0.0 c.in_err-sample.ensures.number in
    rw is (record { sample_so = w.0; makes = w.1 })

pub feed-found-requires : goal.feed-found-requires
feed-found-requires c =
    let σ = c.args.settings.now.settings in
    let b = c.in_ok-sample.ensures.judged in
    let fine = ap bytes_refusal (sym b) ∙ c.in_ok-sample.sample.fine in
    let k = kept-is c.args.s.now c.args.body.now c.keep_for.ensures (c.in_ok-sample.sample.tag_is ∙ ap tag_of b) in
    let kept : GoodState σ c.keep_for.new.s (rings_of σ c.args.rows.now) = rw k (kept-good σ c.args.s.now c.args.rows.now c.args.body.now c.args.settings.now.kept fine c.requires.state) in
    (c.requires.long, kept)

pub returns : goal.returns
returns c =
    let σ = c.args.settings.now.settings in
    let b = c.in_ok-sample.ensures.judged in
    let fine = ap bytes_refusal (sym b) ∙ c.in_ok-sample.sample.fine in
    let k = kept-is c.args.s.now c.args.body.now c.keep_for.ensures (c.in_ok-sample.sample.tag_is ∙ ap tag_of b) in
    let feeds = subst (λ (l : List ℕ). Feeds σ c.keep_for.new.s c.args.rows.now l c.feed-found.result c.feed-found.new.s c.feed-found.new.rows) b c.feed-found.ensures in
    let w = watched-so σ c.args.s.now c.args.rows.now c.args.body.now c.requires c.args.settings.now.kept fine _ _ _ (rw (sym k) feeds) in record { sample_so = w.0; makes = w.1 }
