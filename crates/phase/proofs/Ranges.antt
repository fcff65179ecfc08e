-- The angles of the entries from one on, as a loop puts them into a slice. Assumes nothing.
use mathlib.Core.Path.{◌≡◌, sym, ap, ◌∙◌}
use mathlib.Core.List.{List, map}
use Prim.Native.Nat.{ℕ, ◌+◌, ◌<◌}
use native.Mathlib.Omega.{arith}
use lib.IntN.{ℤ, pos}
use lib.ListN.{length, get_or, length-map}
use lib.Seq.{ext_get_or}
use Rattle.csi.specs.Layout.{up_from}
use Rattle.csi.proofs.Entries.{length-up_from, get_or-up_from}
use Rattle.num.proofs.Lists.{map_at}

module _ (f : ℕ → ℤ) (start : ℕ) (out : List ℤ) where
  abbrev entries : List ℕ
  entries = up_from start (length out)

  pub range-is : ((j : ℕ) → j < length out → get_or out j (pos 0) ≡ f (start + j)) → out ≡ map f entries
  range-is each =
      let n = length-up_from start (length out) in let m = length-map entries f in
      ext_get_or (pos 0) out (map f entries) (omega (arith, n, m))
      (λ j h. each j h ∙ sym (map_at f entries j 0 (pos 0) (omega (arith, n)) ∙ ap f (get_or-up_from start (length out) j h)))
