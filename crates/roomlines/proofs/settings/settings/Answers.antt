use Rattle.std.proofs.Common.{refl}
use Rattle.roomlines.specs.Settings.{settings_bytes}
use Rattle.roomlines.proofs.settings.settings.Goals as goal

pub returns : goal.returns
unfolding settings_bytes
returns c = refl
