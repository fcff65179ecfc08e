-- `csi::moments::picked` meets its contract. Assumes nothing.
use mathlib.Core.Path.{◌≡◌, sym, ◌∙◌}
use mathlib.Core.List.{List, ◌++◌, map}
use Prim.Native.Nat.{ℕ, ◌+◌, ◌-◌, ◌≤◌}
use native.Mathlib.Omega.{arith}
use borrow.Author.Rules.{rules}
use lib.ListN.{length, get_or, take, drop, replicate, length-map, length-append}
use Rattle.num.proofs.Parts.{part-long}
use Rattle.csi.specs.Layout.{max_subcarriers, entries_of, Usable}
use Rattle.csi.specs.declared.Layout.{Layout}
use Rattle.csi.proofs.Entries.{length-entries, parts}
use Rattle.csi.proofs.Padded.{described-is}
use Rattle.csi.proofs.moments.picked.Goals as goal

module _ (xs : List ℕ) (l : Layout) (u : Usable l) (long : length xs ≡ max_subcarriers) where
  abbrev first : List ℕ
  first = take (l.end - l.start) (drop l.start xs)

  abbrev second : List ℕ
  second = take (l.end2 - l.start2) (drop l.start2 xs)

  fits : length first + length second ≤ max_subcarriers
  fits =
      omega (arith, part-long l.start (l.end - l.start) xs (omega (arith, u.up, u.end, u.entries)), part-long l.start2 (l.end2 - l.start2) xs (omega (arith, u.up2, u.end2, u.entries)), length-entries l, u.most)

  are : (a : List ℕ) → a ≡ (first ++ second) ++ replicate (max_subcarriers - (length first + length second)) 0
      → let ys = map (λ k. get_or xs k 0) (entries_of l) in a ≡ ys ++ replicate (max_subcarriers - length ys) 0
  are a e = e ∙ rw (parts l xs u (omega (arith, u.entries)), length-append)

pub joined-requires : goal.joined-requires
joined-requires c =
    let array : length c.args.every.now ≡ max_subcarriers = search rules in
    rw (c.from.ensures, c.from-2.ensures, c.from-3.ensures, c.from-4.ensures) (fits c.args.every.now c.args.layout c.requires array)

pub returns : goal.returns
returns c =
    let xs = c.args.every.now in let l = c.args.layout in
    let array : length xs ≡ max_subcarriers = search rules in
    let j = rw (c.from.ensures, c.from-2.ensures, c.from-3.ensures, c.from-4.ensures) at c.joined.ensures in
    let f : ℕ → ℕ = λ k. get_or xs k 0 in
    c.described.ensures
    ∙ described-is c.joined.result (map f (entries_of l)) c.count.result (c.count.ensures ∙ sym (length-map (entries_of l) f)) (are xs l c.requires array c.joined.result j)
