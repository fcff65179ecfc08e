-- `census::sector_of` meets its contract. Assumes nothing.
use Rattle.std.proofs.Common.{rules}
use Rattle.census.proofs.Parts.{sector-bits}
use Rattle.census.proofs.sector_of.Goals as goal

pub returns : goal.returns
returns c = let e = sector-bits c.args.angle c.ranges.angle in search rules
