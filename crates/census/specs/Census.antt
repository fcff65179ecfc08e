-- The pair census: how many of all I/Q pairs have each amplitude, and how many have their angle in each of the eight equal sectors of the
-- circle (docs/SPEC.md, "The pair census"). Assumes nothing.
use Rattle.std.specs.Prelude.{cond, ℕ, ◌/◌, ℤ, pos, nat_abs, ◌+ℤ◌}
use mathlib.Core.List.{List, map, flat_map}
use Rattle.std.proofs.Math.IntN.{sub_ℕ}
use Rattle.std.specs.Int.Signed.{lt_z}
use Rattle.num.specs.Lists.{build, tallies}
use Rattle.csi.specs.Features.{amplitude_of}
use Rattle.phase.specs.Angle.{angle_of, whole_turn}
use Rattle.phase.specs.Tables.{eighth_turn}
use Rattle.census.specs.declared.Census.{Census}

pub record Pair : Type 0 where
  pub im : ℤ
  pub re : ℤ

-- how many signed bytes there are, the k-th of them from -128 on, and all of them. (`sub_ℕ a b` is the signed number a - b)
abbrev pub bytes : ℕ
bytes = 256

abbrev pub signed_byte : ℕ → ℤ
signed_byte k = sub_ℕ k 128

unfoldable pub signed_bytes : List ℤ
signed_bytes = build bytes signed_byte

-- all pairs: the imaginary part from -128 to 127, the real part likewise within it
unfoldable pub all_pairs : List Pair
all_pairs = flat_map (λ im. map (λ re. record { im = im; re = re }) signed_bytes) signed_bytes

-- the sector that an angle belongs to: a whole turn is added to a negative one, and a sector is an eighth of a turn
unfoldable pub sector_of : ℤ → ℕ
sector_of a = nat_abs (cond (lt_z a (pos 0)) (a +ℤ pos whole_turn) a) / eighth_turn

abbrev pub sector_in : (im re : ℤ) → ℕ
sector_in im re = sector_of (angle_of im re)

-- amplitudes are 0 to 724
abbrev pub amplitudes : ℕ
amplitudes = 725

abbrev pub sectors : ℕ
sectors = 8

unfoldable pub census : Census
census =
    record {
      amplitude = tallies amplitudes (λ p. amplitude_of p.im p.re) all_pairs;
      sector = tallies sectors (λ p. sector_in p.im p.re) all_pairs;
    }
