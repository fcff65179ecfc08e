-- `csi::moments::joined` meets its contract. Assumes nothing.
use mathlib.Core.Path.{◌≡◌, refl}
use mathlib.Core.List.{List, ◌++◌, append_assoc}
use Prim.Native.Nat.{ℕ, ◌+◌, ◌-◌, ◌≤◌}
use native.Mathlib.Omega.{arith}
use lib.ListN.{length, drop, replicate}
use lib.Seq.{take_at, drop_at, drop-drop}
use borrow.Rule.Slice.PartMut.{put_mid}
use Rattle.std.proofs.lemmas.List.{drop-replicate}
use Rattle.csi.specs.Layout.{max_subcarriers}
use Rattle.csi.proofs.moments.joined.Goals as goal

-- the second part is put behind the first
joins : (xs ys p q : List ℕ) → length xs + length ys ≤ max_subcarriers → p ≡ xs → q ≡ ys
    → put_mid (length xs) (length xs + length ys - length xs) (p ++ drop (length xs) (replicate max_subcarriers 0)) q
    ≡ (xs ++ ys) ++ replicate (max_subcarriers - (length xs + length ys)) 0
joins xs ys p q h ep eq =
    let n = length xs in let z : List ℕ = replicate max_subcarriers 0 in
    let back : n + (n + length ys - n) ≡ n + length ys = omega arith in
    rw (ep, eq, take_at xs (drop n z) n refl, drop_at xs (drop n z) n refl, drop-drop, back, append_assoc, drop-replicate)

pub returns : goal.returns
returns c = joins c.args.first.now c.args.second.now c.copy_from_slice.new.self c.copy_from_slice-2.new.self c.requires c.copy_from_slice.ensures.after c.copy_from_slice-2.ensures.after
