-- `csi::steps::features` meets its contract. Assumes nothing.
use mathlib.Core.Path.{◌≡◌, sym, ap, subst, ◌∙◌}
use mathlib.Core.List.{List, map}
use Prim.Native.Nat.{ℕ, ◌≤◌}
use native.Mathlib.Omega.{arith}
use lib.ListN.{length, get_or}
use Rattle.num.proofs.Map.{map-agree}
use Rattle.csi.specs.Features.{amplitude_at, describe, features_of}
use Rattle.csi.specs.Layout.{layout_of, entries_of, need_of, frame_refusal, Usable}
use Rattle.csi.proofs.Answers.{served}
use Rattle.csi.proofs.Entries.{inside, usable}
use Rattle.csi.proofs.steps.features.Goals as goal
use Rattle.csi.specs.declared.Layout.{Layout}

-- the layout is usable, and its bytes are there
module _ (iq : List ℕ) (tag : ℕ) (r : frame_refusal (length iq) tag ≡ 0) (l : Layout) (e : l ≡ layout_of tag) where
  use-it : Usable l
  use-it = subst Usable (sym e) (usable tag (served (length iq) tag r).0)

  enough : need_of l ≤ length iq
  enough = omega (arith, ap need_of e, (served (length iq) tag r).1)

pub layout_of-layout-requires : goal.layout_of-layout-requires
layout_of-layout-requires c = (served (length c.args.iq.now) c.args.tag c.requires).0

pub every-every-requires : goal.every-every-requires
every-every-requires c =
    let u = use-it c.args.iq.now c.args.tag c.requires c.layout_of-layout.result c.layout_of-layout.ensures in
    let e = enough c.args.iq.now c.args.tag c.requires c.layout_of-layout.result c.layout_of-layout.ensures in
    (omega (arith, u.entries), omega (arith, e))

pub picked-requires : goal.picked-requires
picked-requires c = use-it c.args.iq.now c.args.tag c.requires c.layout_of-layout.result c.layout_of-layout.ensures

pub returns : goal.returns
unfolding features_of
returns c =
    let l = c.layout_of-layout.result in let iq = c.args.iq.now in let f = amplitude_at iq in
    c.picked.ensures
    ∙ ap describe (map-agree (λ k. get_or c.every-every.result k 0) f (entries_of l) (λ k h. c.every-every.ensures (get_or (entries_of l) k 0) (omega (arith, inside l (use-it iq c.args.tag c.requires l c.layout_of-layout.ensures) k h))))
    ∙ ap (λ m. describe (map f (entries_of m))) c.layout_of-layout.ensures
