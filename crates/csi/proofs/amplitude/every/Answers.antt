-- `csi::amplitude::every` meets its contract. Assumes nothing.
use mathlib.Core.Path.{◌≡◌, refl, ◌∙◌}
use Prim.Native.Nat.{◌/◌, ◌<◌}
use lib.ListN.{length, take}
use Rattle.std.proofs.Common.{rules}
use Rattle.std.specs.Simd.{first_chunks}
use Rattle.csi.specs.Features.{amplitude_at}
use Rattle.csi.proofs.Pairs.{pair-at}
use Rattle.csi.proofs.amplitude.every.Goals as goal

pub loop-k-preserved : goal.loop-k-preserved
unfolding amplitude_at
loop-k-preserved c =
    let iq = c.args.iq.now in let e = c.args.entries in let k = c.loop-k.k in let n = length iq / 2 in
    let f : c.as_chunks.result.0.now ≡ first_chunks 2 n iq = c.as_chunks.ensures.front in
    let here : k < length (take e (first_chunks 2 n iq)) = rw f at c.loop-k-test.true in
    let p = pair-at e n iq k here in
    let v : c.amplitude.result ≡ amplitude_at iq k = c.amplitude.ensures ∙ rw (f, p.0, p.1) refl in
    search rules
