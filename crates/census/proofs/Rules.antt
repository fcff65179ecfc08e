-- The rules of specs/Rules.antt. Assumes nothing.
use mathlib.Core.Path.{◌≡◌, refl, ap, ◌∙◌}
use mathlib.Core.List.{List}
use mathlib.Core.Logic.{by_cases}
use Prim.Native.Nat.{ℕ, zero, suc, ◌+◌, ◌*◌, ◌/◌, ◌%◌, ◌≤◌, ◌<◌}
use native.Mathlib.Decide.{dec_lt}
use native.Mathlib.Nat.{mul-le-mul}
use native.Mathlib.Omega.{arith}
use lib.IntN.{ℤ, nat_abs}
use lib.ListN.{get_or}
use Rattle.num.specs.Lists.{build, tallies, having}
use Rattle.num.specs.Root.{root, root_in}
use Rattle.num.specs.Sum.{total}
use Rattle.num.specs.Wrap.{wrap16}
use Rattle.num.proofs.Lists.{length-build, at-build}
use Rattle.num.proofs.Partition.{all_build, partition, one-alone}
use Rattle.num.proofs.Root.{root-fits, root-next}
use Rattle.csi.specs.Features.{amplitude_of}
use Rattle.phase.specs.Angle.{angle_of, first_quadrant, octant_angle, mirror_x, mirror_y}
use Rattle.census.specs.Census.{Pair, bytes, signed_byte, all_pairs, sector_of, sector_in, amplitudes, sectors, census}
use Rattle.census.specs.Rows.{pairs}
use Rattle.census.specs.Rules.{ListsTotalAllPairs, EndsHaveOnePair, SectorsOfHalfATurnAndOfZero}
use Rattle.census.proofs.Parts.{byte-abs, amplitude-bound, sector-bound}
use Rattle.census.proofs.Rows.{pair_at, all-pairs}

-- ---- each pair is counted once
module _ (value : ℤ → ℤ → ℕ) (n : ℕ) (below : (i j : ℕ) → i < bytes → j < bytes → value (signed_byte i) (signed_byte j) < n) where
  each-once : total (tallies n (λ (p : Pair). value p.im p.re) all_pairs) ≡ 65536
  each-once =
      rw all-pairs
      (partition _ n (build pairs pair_at) (all_build (λ (x : Pair). value x.im x.re < n) pairs pair_at (λ p h. below (p / bytes) (p % bytes) (omega arith) (omega arith)))
      ∙ length-build pairs pair_at)

pub lists-total-all-pairs : ListsTotalAllPairs
unfolding census
lists-total-all-pairs = (each-once amplitude_of amplitudes amplitude-bound, each-once sector_in sectors sector-bound)

-- ---- the ends of the scale
no-square : (x y : ℕ) → x * x + y * y ≤ 0 → x ≡ 0
no-square zero y h = refl
no-square (suc x) y h = let a : 1 * 1 ≤ suc x * suc x = mul-le-mul {n₁ = 1} {m₁ = 1} {n₂ = suc x} {m₂ = suc x} (omega arith) (omega arith) in absurd (omega arith)

largest-square : (x y : ℕ) → x ≤ 128 → y ≤ 128 → 32761 ≤ x * x + y * y → x ≡ 128
largest-square x y h l b =
    by_cases (dec_lt x 128)
    (λ k. let a = mul-le-mul {n₁ = x} {m₁ = x} {n₂ = 127} {m₂ = 127} (omega arith) (omega arith) in let d = mul-le-mul {n₁ = y} {m₁ = y} {n₂ = 128} {m₂ = 128} l l in absurd (omega arith))
    (λ k. omega arith)

abbrev amplitude_at : ℕ → ℕ
amplitude_at p = amplitude_of (pair_at p).im (pair_at p).re

module _ (p : ℕ) (h : p < pairs) where
  abbrev x : ℕ
  x = nat_abs (pair_at p).im

  abbrev y : ℕ
  y = nat_abs (pair_at p).re

  only_zero : amplitude_at p ≡ 0 → p ≡ 32896
  only_zero e =
      let v : ℕ = 16 * (x * x + y * y) in
      let n : v < suc (root v) * suc (root v) = root-next v in
      let m : v < 1 = rw e at n in
      let a = no-square x y (omega arith) in let b = no-square y x (omega arith) in
      let c = byte-abs (p / bytes) (omega arith) in let d = byte-abs (p % bytes) (omega arith) in
      omega arith

  only-largest : amplitude_at p ≡ 724 → p ≡ 0
  only-largest e =
      let v : ℕ = 16 * (x * x + y * y) in
      let n : root v * root v ≤ v = root-fits v in
      let m : 724 * 724 ≤ v = rw e at n in
      let c = byte-abs (p / bytes) (omega arith) in let d = byte-abs (p % bytes) (omega arith) in
      let a = largest-square x y (omega arith) (omega arith) (omega arith) in let b = largest-square y x (omega arith) (omega arith) (omega arith) in
      omega arith

-- an amplitude that pair p alone has
one-pair : (k p : ℕ) → k < amplitudes → p < pairs → amplitude_at p ≡ k → ((i : ℕ) → i < pairs → amplitude_at i ≡ k → i ≡ p) → get_or census.amplitude k 0 ≡ 1
unfolding census tallies
one-pair k p h l e only =
    at-build amplitudes (having (λ (q : Pair). amplitude_of q.im q.re) all_pairs) k 0 h
    ∙ ap (λ (ps : List Pair). having (λ (q : Pair). amplitude_of q.im q.re) ps k) all-pairs
    ∙ one-alone (λ (q : Pair). amplitude_of q.im q.re) pairs pair_at k p l e only

-- (0, 0), and (-128, -128)
pub ends-have-one-pair : EndsHaveOnePair
unfolding root root_in
ends-have-one-pair = (one-pair 0 32896 (omega arith) (omega arith) refl only_zero, one-pair 724 0 (omega arith) (omega arith) refl only-largest)

pub sectors-of-half-a-turn-and-of-zero : SectorsOfHalfATurnAndOfZero
unfolding sector_of angle_of first_quadrant octant_angle mirror_x mirror_y wrap16
sectors-of-half-a-turn-and-of-zero = (refl, refl)
