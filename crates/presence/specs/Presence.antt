-- Presence is the detector of the wander of amplitudes (csi.rs, `PresenceDetector`). Assumes nothing.
use Rattle.std.specs.Prelude.{replicate}
use Rattle.window.specs.Window.{columns}
use Rattle.detector.specs.Detector.{Kind}
use Rattle.detector.specs.declared.Limits.{Limits}
use Rattle.presence.specs.declared.Config.{Config}
use Rattle.presence.specs.declared.Sums.{Sums}
use Rattle.presence.specs.Wander.{amplitudes, window_wander}

-- the wander has 16 bits, and motion is the wander itself
abbrev pub presence_kind : Kind
presence_kind = record { sums = amplitudes; wander_of = window_wander; top = 65535; unit = 1 }

abbrev pub limits_of : Config → Limits
limits_of cfg = record { on = cfg.on_permille; off = cfg.off_permille; hold = cfg.hold }

-- `Config::normalised_default`, for amplitudes divided by their frame's mean
abbrev pub normalised_default : Config
normalised_default = record { on_permille = 32; off_permille = 23; hold = 3000000 }

abbrev pub no_sums : Sums
no_sums = record { sum = replicate columns 0; sumsq = replicate columns 0 }
