-- `census::count` meets its contract. Assumes nothing.
use Rattle.csi.specs.Features.{amplitude_of}
use Rattle.census.specs.Census.{amplitudes, sectors, sector_in}
use Rattle.census.proofs.Rows.{Tallied}
use Rattle.census.proofs.count.Given as goal

abbrev pub invariant-loop-k : goal.invariant-loop-k
invariant-loop-k l = Tallied amplitude_of amplitudes l.amplitude l.k × Tallied sector_in sectors l.sector l.k
