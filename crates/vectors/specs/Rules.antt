-- Rules of the sine table. Theorems in proofs/Rules.antt. Assumes nothing.
use Rattle.std.specs.Prelude.{◌^◌}
use Rattle.num.specs.Rules.{Ascends, SquaresNear}
use Rattle.vectors.specs.Tables.{sin_quarter}

-- 257 entries, ascending from 0 to 16,384
abbrev pub SinesAscend : Type 0
SinesAscend = Ascends 257 16384 sin_quarter

-- sine[i]² + sine[256 - i]² differs from 2²⁸ by at most 24,000
abbrev pub OppositeSquares : Type 0
OppositeSquares = SquaresNear 257 (2 ^ 28) 24000 sin_quarter
