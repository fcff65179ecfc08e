-- `room_sensing::steps::settings_of` meets its contract. Assumes nothing.
use Rattle.room_sensing.specs.Settings.{settings_of}
use Rattle.room_sensing.proofs.steps.settings_of.Goals as goal

pub returns : goal.returns
unfolding settings_of
returns c = rw (c.word_at.ensures, c.word_at-2.ensures, c.presence_at.ensures, c.phase_at.ensures, c.rhythm_at.ensures, c.rhythm_at-2.ensures, c.config_at.ensures)
