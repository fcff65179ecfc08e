-- `csi_stream::Sample::encode` meets its contract: the two calls of `put` leave the header and the I/Q bytes at the front of `out`. Assumes nothing.
use Prim.Native.Nat.{ℕ, ◌+◌}
use mathlib.Core.Path.{◌≡◌, ap, ◌∙◌}
use mathlib.Core.List.{List, ◌++◌}
use lib.ListN.{length, drop}
use Rattle.num.proofs.Parts.{front-twice}
use Rattle.csi_stream.specs.Wire.{encoded}
use Rattle.csi_stream.proofs.Answers.{written}
use Rattle.csi_stream.proofs.Sample.encode.Goals as goal

pub returns-clause-space : goal.returns-clause-space
unfolding encoded
returns-clause-space c =
    let h = c.header-header.result in let w = written c.args.self c.args.iq.now c.args.out.now c.if-n-gt-MAX_IQ.false c.if-out-total.false in
    let size : length h ≡ 13 = ap length c.header-header.ensures in
    let o : c.put.new.dst ≡ h ++ drop 13 c.args.out.now = c.put.ensures ∙ ap (λ (n : ℕ). h ++ drop n c.args.out.now) size in
    front-twice 13 h c.args.iq.now c.args.out.now c.put.new.dst c.put-2.new.dst size o c.put-2.ensures
    ∙ ap (λ (l : List ℕ). (l ++ c.args.iq.now) ++ drop (13 + length c.args.iq.now) c.args.out.now) c.header-header.ensures
    ∙ w.1
