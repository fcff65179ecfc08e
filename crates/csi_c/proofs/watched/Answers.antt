-- `csi_c::watched` meets its contract: features that are not refused have no more than 64 amplitudes in use. Assumes nothing.
use mathlib.Core.Path.{◌≡◌, refl, sym, ap, ◌∙◌}
use native.Mathlib.Omega.{arith}
use Prim.Native.Nat.{◌≤◌}
use borrow.Author.Tests.{le-ltb}
use lib.ListN.{length}
use Rattle.std.specs.Prelude.{Ok}
use Rattle.csi.specs.Features.{features_of, features_answer, normalised_answer}
use Rattle.csi.specs.Layout.{max_subcarriers, frame_refusal}
use Rattle.csi.proofs.Answers.{features-pass}
use Rattle.csi.proofs.Shape.{features-most}
use Rattle.csi_c.proofs.watched.Goals as goal

pub returns : goal.returns
unfolding normalised_answer
returns c =
    let iq = c.args.iq.now in let tag = c.args.tag in let f = c.in_ok-features.field-0 in
    let z : frame_refusal (length iq) tag ≡ 0 = sym c.in_ok-features.ensures.number in
    let a : Ok f ≡ features_answer iq tag = c.in_ok-features.ensures.answer in
    let is : f ≡ features_of iq tag = let e : Ok f ≡ Ok (features_of iq tag) = a ∙ features-pass iq tag z in cc in
    let few : f.count ≤ max_subcarriers = omega (arith, ap (λ g. g.count) is, features-most iq tag z) in
    c.normalised.ensures ∙ rw (← a, le-ltb max_subcarriers f.count few) refl
