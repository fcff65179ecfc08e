-- `csi_stream::Sample::decode` meets its contract: the I/Q bytes are the rest of the record, as many as byte 12 says. Assumes nothing.
use mathlib.Core.Path.{◌≡◌, refl, ap, ◌∙◌}
use native.Mathlib.Omega.{arith}
use lib.ListN.{length, get_or, drop, length-drop}
use borrow.Author.Rules.{sfits_of}
use mir.Syntax.{w8}
use mir.Facts.{to_z-of_z}
use Rattle.std.proofs.lemmas.List.{take_rest}
use Rattle.num.proofs.Cast.{cast8}
use Rattle.csi_stream.proofs.Answers.{tests, accepted}
use Rattle.csi_stream.proofs.Sample.decode.Goals as goal

pub returns-clause-answer : goal.returns-clause-answer
returns-clause-answer c =
    let r = c.args.bytes.now in
    let n : length (drop 13 r) ≡ get_or r 12 0 = omega (arith, length-drop 13 r, tests r c.in_ok-check.ensures.legal) in
    let z = to_z-of_z {w = w8} (sfits_of c.cast_signed.type_inv) ∙ c.cast_signed.ensures ∙ cast8 _ (omega (arith, c.type_inv.bytes 2)) in
    accepted r _ _ _ c.in_ok-check.ensures.legal c.word_at.ensures z (ap length (take_rest r 13) ∙ n)

pub returns-clause-part : goal.returns-clause-part
returns-clause-part c = record { bytes = take_rest c.args.bytes.now 13; place = refl }
