-- `csi::normal::divided` meets its contract. Assumes nothing.
use mathlib.Core.Path.{◌≡◌, sym, ap, ◌∙◌}
use mathlib.Core.List.{List, map}
use Prim.Native.Nat.{ℕ, ◌*◌, ◌/◌, ◌^◌, min, ◌≤◌, ◌<◌}
use native.Mathlib.Omega.{arith}
use lib.ListN.{length, get_or, length-map}
use Rattle.num.specs.Sum.{total}
use Rattle.num.proofs.Map.{element-le}
use Rattle.num.proofs.Sum.{total-le}
use Rattle.csi.specs.Features.{scale}
use Rattle.csi.specs.Layout.{max_subcarriers}
use Rattle.csi.proofs.Padded.{described-is, padded-next, padded-all}
use Rattle.csi.proofs.Scaled.{factor, product-fits, whole_part}
use Rattle.csi.proofs.normal.divided.Goals as goal

-- one of the amplitudes
module _ (xs : List ℕ) (t k : ℕ) (few : length xs ≤ max_subcarriers) (some : 1 ≤ t) (et : t ≡ total xs) (fit : (i : ℕ) → get_or xs i 0 ≤ 65535) where
  part : get_or xs k 0 ≤ t
  part = omega (arith, element-le xs k, et)

  fits : get_or xs k 0 * factor (length xs) t < 2 ^ 64
  fits = product-fits (length xs) t (get_or xs k 0) few some part (fit k)

  gives : min 65535 (get_or xs k 0 * factor (length xs) t / 2 ^ 40) ≡ scale (length xs) t (get_or xs k 0)
  gives = whole_part (length xs) t (get_or xs k 0) few some part (fit k) (omega (arith, total-le 65535 xs (λ i h. fit i)))

pub scaled-requires : goal.scaled-requires
scaled-requires c =
    let xs = c.args.amplitudes.now in
    let e : c.ratio-factor.result ≡ factor (length xs) c.args.sum = c.ratio-factor.ensures ∙ ap (factor (length xs)) c.from.ensures in
    rw e (fits xs c.args.sum c.loop-k.k c.requires.1 c.requires.2 c.requires.3 (λ i. omega (arith, c.type_inv.amplitudes i)))

pub loop-k-preserved : goal.loop-k-preserved
loop-k-preserved c =
    let xs = c.args.amplitudes.now in let k = c.loop-k.k in
    let e : c.ratio-factor.result ≡ factor (length xs) c.args.sum = c.ratio-factor.ensures ∙ ap (factor (length xs)) c.from.ensures in
    padded-next (scale (length xs) c.args.sum) xs c.loop-k.out max_subcarriers k c.scaled.result c.loop-k-test.true c.requires.1
    (c.scaled.ensures ∙ rw e (gives xs c.args.sum k c.requires.1 c.requires.2 c.requires.3 (λ i. omega (arith, c.type_inv.amplitudes i))))
    c.loop-k.invariant

pub returns : goal.returns
returns c =
    let xs = c.args.amplitudes.now in let f = scale (length xs) c.args.sum in
    c.described.ensures
    ∙ described-is c.loop-k.out (map f xs) (length xs) (sym (length-map xs f))
    (padded-all f xs c.loop-k.out max_subcarriers c.loop-k.k (omega arith) (omega arith) c.loop-k.invariant)
