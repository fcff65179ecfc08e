-- `phase::frame::range_angles` meets its contract: the first k are put. Assumes nothing.
use mathlib.Core.Path.{◌≡◌, ap, ◌∙◌, subst}
use mathlib.Core.List.{map, []}
use Prim.Native.Nat.{ℕ, ◌+◌, ◌-◌, ◌*◌, ◌/◌, ◌<◌}
use native.Mathlib.Omega.{arith}
use lib.ListN.{length, get_or, take, drop, length-take, length-drop}
use lib.Seq.{get_or-drop, get_or-take}
use Rattle.std.proofs.Common.{rules}
use Rattle.std.specs.Simd.{first_chunks}
use Rattle.num.proofs.Cast.{cast8}
use Rattle.csi.specs.Layout.{up_from}
use Rattle.csi.proofs.Pairs.{pair-at}
use Rattle.phase.specs.Angle.{entry_angle}
use Rattle.phase.proofs.Ranges.{range-is}
use Rattle.phase.proofs.frame.range_angles.Goals as goal

pub loop-k-preserved : goal.loop-k-preserved
unfolding entry_angle
loop-k-preserved c =
    let iq = c.args.iq.now in let from = 2 * c.args.start in let m = length iq - from in let d = take m (drop from iq) in
    let e = length c.args.out.now in let k = c.loop-k.k in let n = length d / 2 in
    let f : c.as_chunks.result.0.now ≡ first_chunks 2 n d = c.as_chunks.ensures.front in
    let here : k < length (take e (first_chunks 2 n d)) = rw f at c.loop-k-test.true in
    let p = pair-at e n d k here in
    let h : k < e = omega (arith, here, length-take e (first_chunks 2 n d)) in
    let place : from + 2 * k ≡ 2 * (c.args.start + k) = omega arith in
    let next : from + (2 * k + 1) ≡ 2 * (c.args.start + k) + 1 = omega arith in
    let im : get_or (get_or (take e c.as_chunks.result.0.now) k []) 0 0 ≡ get_or iq (2 * (c.args.start + k)) 0 =
    rw f (p.0 ∙ get_or-take m (drop from iq) (2 * k) 0 (omega (arith, h, c.requires.1)) ∙ get_or-drop from iq (2 * k) 0 ∙ ap (λ (i : ℕ). get_or iq i 0) place) in
    let re : get_or (get_or (take e c.as_chunks.result.0.now) k []) 1 0 ≡ get_or iq (2 * (c.args.start + k) + 1) 0 =
    rw f (p.1 ∙ get_or-take m (drop from iq) (2 * k + 1) 0 (omega (arith, h, c.requires.1)) ∙ get_or-drop from iq (2 * k + 1) 0 ∙ ap (λ (i : ℕ). get_or iq i 0) next) in
    let v : c.angle.result ≡ entry_angle iq (c.args.start + k) = search (rules, cast8, im, re) in
    search rules

pub returns : goal.returns
returns c =
    let f = entry_angle c.args.iq.now in
    let d = drop (2 * c.args.start) c.args.iq.now in
    let m = length c.args.iq.now - 2 * c.args.start in
    subst (λ (n : ℕ). c.loop-k.out ≡ map f (up_from c.args.start n)) c.loop-k.auto.out
    (range-is f c.args.start c.loop-k.out (λ j h. c.loop-k.invariant j (omega (arith, h, c.loop-k.auto.out, c.loop-k-test.false, c.requires.1, c.as_chunks.ensures.front_len, length-drop (2 * c.args.start) c.args.iq.now, length-take m d, length-take (length c.args.out.now) c.as_chunks.result.0.now))))
