-- The sums of rows of zeros are no sums: an amplitude of 0 adds nothing to them. Assumes nothing.
use mathlib.Core.Path.{refl, ap}
use lib.ListN.{replicate}
use Rattle.num.specs.Sum.{square}
use Rattle.window.specs.Window.{columns}
use Rattle.presence.specs.Wander.{self}
use Rattle.presence.proofs.Amplitudes.{zero-amplitudes}
use Rattle.presence.proofs.SumsColumnSums.zeros.Goals as goal

pub returns : goal.returns
returns c =
    record {
      firsts = rw c.no_sums.ensures (ap (replicate columns) (zero-amplitudes self refl c.args._w));
      seconds = rw c.no_sums.ensures (ap (replicate columns) (zero-amplitudes square refl c.args._w));
    }
