-- The rule of the arctangent table. Theorem in proofs/Rules.antt. Assumes nothing.
use Rattle.num.specs.Rules.{Ascends}
use Rattle.phase.specs.Tables.{atan_octant}

-- 257 entries, ascending from 0 to 8,192
abbrev pub ArctangentsAscend : Type 0
ArctangentsAscend = Ascends 257 8192 atan_octant
