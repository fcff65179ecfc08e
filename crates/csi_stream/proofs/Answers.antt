-- What the tests of the code say of the answers that `specs/Codec.antt` defines. Assumes nothing.
use Prim.Native.Nat.{ℕ, ◌+◌, ◌≤◌}
use mathlib.Core.Path.{◌≡◌}
use mathlib.Core.Bool.{true}
use mathlib.Core.List.{List, ◌++◌}
use lib.IntN.{ℤ}
use lib.ListN.{length, get_or, drop}
use borrow.Author.Tests.{le-leb, le-ltb, leb-true, eqb-true}
use Rattle.csi_stream.specs.declared.Sample.{Sample}
use Rattle.std.specs.Prelude.{Ok}
use Rattle.num.specs.Words.{le_at}
use Rattle.num.specs.Wrap.{signed8}
use Rattle.num.proofs.Logic.{both}
use Rattle.csi_stream.specs.Wire.{encoded}
use Rattle.csi_stream.specs.Codec.{legal, decode_of, encode_of, encode_into}

-- what a legal record is
pub tests : (r : List ℕ) → legal r ≡ true → (13 ≤ length r) × ((get_or r 0 0 ≡ 1) × ((get_or r 12 0 ≤ 128) × (length r ≡ 13 + get_or r 12 0)))
tests r e =
    let a = both _ _ e in
    let b = both _ _ a.1 in
    let d = both _ _ b.1 in
    (leb-true _ _ a.0, (eqb-true _ _ b.0, (leb-true _ _ d.0, eqb-true _ _ d.1)))

-- a legal record is accepted
pub accepted : (r : List ℕ) (t n : ℕ) (z : ℤ) → legal r ≡ true → t ≡ le_at r 4 8 → z ≡ signed8 (get_or r 2 0) → n ≡ get_or r 12 0
    → Ok (record { at = t; rssi = z; channel = get_or r 3 0; layout = get_or r 1 0 }, n) ≡ decode_of r
unfolding decode_of
accepted r t n z e et ez en = rw (et, ez, en, e)

module _ (s : Sample) (iq out : List ℕ) where
  module _ (few : length iq ≤ 128) where
    pub written : 13 + length iq ≤ length out
        → (Ok (13 + length iq) ≡ encode_of (length iq) (length out)) × (encoded s iq ++ drop (13 + length iq) out ≡ encode_into s iq out)
    unfolding encode_of encode_into
    written h = (simp (le-ltb _ _ few, le-ltb _ _ h), simp (le-leb _ _ few, le-leb _ _ h))
