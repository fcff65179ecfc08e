-- What the tables come to. Theorems in proofs/Rules.antt. Assumes nothing.
use Rattle.std.specs.Prelude.{◌≡◌, ℕ, suc, ◌*◌, ◌^◌, ◌≤◌, get_or}
use Rattle.num.specs.Rules.{Ascends, SquaresNear}
use Rattle.phase.specs.Tables.{atan_octant, eighth_turn}
use Rattle.vectors.specs.Tables.{sin_quarter}
use Rattle.tables.specs.Tables.{Table, entry_of, atan_table, sine_table}

-- at 256 steps: the two constant tables
abbrev pub CoarseAreTheConstants : Type 0
CoarseAreTheConstants = (atan_table 256 ≡ atan_octant) × (sine_table 256 ≡ sin_quarter)

-- at 1,024 steps: each fourth entry is the constant one
abbrev pub EachFourthIsConstant : Type 0
EachFourthIsConstant = (i : ℕ) → i ≤ 256 → (get_or (atan_table 1024) (4 * i) 0 ≡ get_or atan_octant i 0) × (get_or (sine_table 1024) (4 * i) 0 ≡ get_or sin_quarter i 0)

-- how far the squares of opposite sines may be from 2²⁸
abbrev pub tolerance : ℕ
tolerance = 24000

-- at n steps: n + 1 entries that never fall, from 0 to an eighth of a turn and to 16,384; squares of opposite sines add up to 2²⁸, nearly
pub record KeepTheRules (n : ℕ) : Type 0 where
  pub arctangents : Ascends (suc n) eighth_turn (atan_table n)
  pub sines : Ascends (suc n) 16384 (sine_table n)
  pub squares : SquaresNear (suc n) (2 ^ 28) tolerance (sine_table n)

abbrev pub BothKeepTheRules : Type 0
BothKeepTheRules = KeepTheRules 256 × KeepTheRules 1024

-- an entry depends on i / n alone
abbrev pub ByTheRatioAlone : Type 0
ByTheRatioAlone = (t : Table) (c n i : ℕ) → 1 ≤ c → 1 ≤ n → entry_of t (c * n) (c * i) ≡ entry_of t n i
