-- What the census comes to. Theorems in proofs/Rules.antt. Assumes nothing.
use Rattle.std.specs.Prelude.{◌≡◌, pos, negsuc, get_or}
use Rattle.num.specs.Sum.{total}
use Rattle.census.specs.Census.{sector_of, sector_in, census}

-- each list totals all pairs
abbrev pub ListsTotalAllPairs : Type 0
ListsTotalAllPairs = (total census.amplitude ≡ 65536) × (total census.sector ≡ 65536)

-- the least and the largest amplitude have one pair each
abbrev pub EndsHaveOnePair : Type 0
EndsHaveOnePair = (get_or census.amplitude 0 0 ≡ 1) × (get_or census.amplitude 724 0 ≡ 1)

-- half a turn, -32,768, is in sector 4, and (0, 0) is in sector 0. (`negsuc n` is -(n + 1))
abbrev pub SectorsOfHalfATurnAndOfZero : Type 0
SectorsOfHalfATurnAndOfZero = (sector_of (negsuc 32767) ≡ 4) × (sector_in (pos 0) (pos 0) ≡ 0)
