-- The rules of specs/Rules.antt. Assumes nothing.
use mathlib.Core.Path.{◌≡◌, refl, sym, ap, ◌∙◌}
use mathlib.Core.Bool.{Bool, ◌&&◌}
use mathlib.Core.List.{List, [], ◌∷◌}
use Prim.Native.Nat.{ℕ, zero, suc, ◌+◌, ◌*◌, ◌^◌, ◌≤◌}
use native.Mathlib.Nat.{mul-pos}
use native.Mathlib.Omega.{arith}
use lib.Dec.{T}
use lib.ListN.{get_or}
use Rattle.num.specs.Lists.{build}
use Rattle.num.proofs.Lists.{at-build}
use Rattle.num.proofs.Nearest.{nearest-times}
use Rattle.num.proofs.Ratio.{part-times}
use Rattle.num.proofs.Rules.{ascending, near, ascends-by, near_by}
use Rattle.num.proofs.Table.{each_of}
use Rattle.phase.specs.Tables.{atan_octant, eighth_turn}
use Rattle.vectors.specs.Tables.{sin_quarter}
use Rattle.tables.specs.Tables.{Table, one, fractions, deeper, euler, atan_entry, sine_terms, less, alternating, sine_entry, entry_of, table_of, atan_table, sine_table}
use Rattle.tables.specs.Tables.Table.{Arctangents, Sines}
use Rattle.tables.specs.Rules.{CoarseAreTheConstants, EachFourthIsConstant, tolerance, KeepTheRules, BothKeepTheRules, ByTheRatioAlone}

-- ---- at 256 steps, by computation
pub coarse-are-the-constants : CoarseAreTheConstants
unfolding table_of build atan_entry euler deeper sine_entry alternating less atan_octant sin_quarter
coarse-are-the-constants = (refl, refl)

-- ---- order and squares: one test for every n, made of those of the constant tables
module _ (n : ℕ) where
  abbrev atans_ascend : Bool
  atans_ascend = ascending (suc n) eighth_turn (atan_table n)

  abbrev sines_ascend : Bool
  sines_ascend = ascending (suc n) 16384 (sine_table n)

  abbrev squares_near : Bool
  squares_near = near (suc n) (2 ^ 28) tolerance (sine_table n)

  keep-by : T (atans_ascend && (sines_ascend && squares_near)) → KeepTheRules n
  keep-by t =
      let (atans, rest) = each_of atans_ascend (sines_ascend && squares_near) t in
      let (sines, squares) = each_of sines_ascend squares_near rest in
      record {
        arctangents = ascends-by (suc n) eighth_turn (atan_table n) atans;
        sines = ascends-by (suc n) 16384 (sine_table n) sines;
        squares = near_by (suc n) (2 ^ 28) tolerance (sine_table n) squares;
      }

pub both-keep-the-rules : BothKeepTheRules
unfolding table_of build atan_entry euler deeper sine_entry alternating less
both-keep-the-rules = (keep-by 256 tt, keep-by 1024 tt)

-- ---- i and n times c: each quotient is the same, since both its numbers are k times what they were
module _ (k : ℕ) (some : 1 ≤ k) where
  deeper-times : (s q j x : ℕ) → deeper (k * s) (k * q) j x ≡ deeper s q j x
  unfolding deeper
  deeper-times s q j x =
      let over : 2 * j * (k * s) ≡ k * (2 * j * s) = omega arith in
      let under : (2 * j + 1) * (k * q) ≡ k * ((2 * j + 1) * q) = omega arith in
      rw (over, under, part-times k some x (2 * j * s) ((2 * j + 1) * q))

  euler-times : (s q j m : ℕ) → euler (k * s) (k * q) j m ≡ euler s q j m
  unfolding euler
  euler-times s q j zero = refl
  euler-times s q j (suc m) = rw (euler-times s q (suc j) m) (deeper-times s q j (euler s q (suc j) m))

  alternating-times : (s q : ℕ) (terms : List ℕ) → alternating (k * s) (k * q) terms ≡ alternating s q terms
  unfolding alternating less
  alternating-times s q [] = refl
  alternating-times s q (a ∷ rest) = rw (alternating-times s q rest, part-times k some (alternating s q rest) s q)

pub by-the-ratio-alone : ByTheRatioAlone
unfolding atan_entry sine_entry
by-the-ratio-alone Arctangents c n i some steps =
    let k : ℕ = c * c in let s : ℕ = i * i in let q : ℕ = i * i + n * n in let x : ℕ = euler s q 1 fractions in
    let square : 1 ≤ k = mul-pos some some in
    let whole : 1 ≤ n * n = mul-pos steps steps in
    let over : c * i * (c * i) ≡ k * s = omega arith in
    let under : c * i * (c * i) + c * n * (c * n) ≡ k * q = omega arith in
    let above : x * (c * i * (c * n)) ≡ k * (x * (i * n)) = omega arith in
    let below : k * q * one ≡ k * (q * one) = omega arith in
    rw (under, over, euler-times k square s q 1 fractions, above, below) (nearest-times k (x * (i * n)) (q * one) square (omega arith))
by-the-ratio-alone Sines c n i some steps =
    let k : ℕ = c * c in let x : ℕ = alternating (i * i) (n * n) sine_terms in
    let square : 1 ≤ k = mul-pos some some in
    let over : c * i * (c * i) ≡ k * (i * i) = omega arith in
    let under : c * n * (c * n) ≡ k * (n * n) = omega arith in
    let above : x * (c * i) ≡ c * (x * i) = omega arith in
    let below : c * n * one ≡ c * (n * one) = omega arith in
    rw (over, under, alternating-times k square (i * i) (n * n) sine_terms, above, below) (nearest-times c (x * i) (n * one) some (omega arith))

-- ---- so each fourth entry at 1,024 steps is the one at 256
fourth : (t : Table) (i : ℕ) → i ≤ 256 → get_or (table_of t 1024) (4 * i) 0 ≡ get_or (table_of t 256) i 0
unfolding table_of
fourth t i h =
    at-build 1025 (entry_of t 1024) (4 * i) 0 (omega arith) ∙ by-the-ratio-alone t 4 256 i (omega arith) (omega arith)
    ∙ sym (at-build 257 (entry_of t 256) i 0 (omega arith))

pub each-fourth-is-constant : EachFourthIsConstant
each-fourth-is-constant i h = (
  fourth Arctangents i h ∙ ap (λ (l : List ℕ). get_or l i 0) coarse-are-the-constants.0,
  fourth Sines i h ∙ ap (λ (l : List ℕ). get_or l i 0) coarse-are-the-constants.1,
)
