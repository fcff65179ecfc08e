-- Falls (fall.rs, `FallDetector::push`): the five states of the machine, and one frame of wander w at time t, state by state.
-- Times are in microseconds. A difference of times is cut at 0, so that a clock that went back counts as no time.
use Rattle.std.specs.Prelude.{ℕ, ◌+◌, ◌-◌, min, max, cond, ◌&&◌, leb, ltb, Option, Some, None}
use Rattle.fall.specs.declared.FallConfig.{FallConfig}
use Rattle.fall.specs.declared.Phase.{Phase}
use Rattle.fall.specs.declared.Phase.TheVariants.{Idle, Active, Burst, Settling, Refractory}
use Rattle.fall.specs.declared.FallDetector.{FallDetector}
use Rattle.fall.specs.declared.Pushed.{Pushed}

-- `FallConfig::normalised_default`
abbrev pub normalised_default : FallConfig
normalised_default = record {
  active_permille = 32;
  burst_permille = 232;
  still_permille = 30;
  min_active = 2000000;
  quiet_grace = 3000000;
  settle = 3000000;
  still_for = 10000000;
  refractory = 60000000;
}

-- a new machine: `FallDetector::new`, `FallDetector::reset`
abbrev pub new_detector : FallConfig → FallDetector
new_detector c = record { config = c; phase = Idle }

-- the last time that 64 bits hold
abbrev pub last_time : ℕ
last_time = 18446744073709551615

-- when a refractory time that begins at t ends
abbrev pub end_of : FallConfig → (t : ℕ) → ℕ
end_of c t = min last_time (t + c.refractory)

-- moving since s
abbrev pub moving : (s : ℕ) → Phase
moving s = Active s None

abbrev pub in_refractory : (until t : ℕ) → Phase
in_refractory u t = cond (leb u t) Idle (Refractory u)

abbrev pub in_idle : FallConfig → (w t : ℕ) → Phase
in_idle c w t = cond (leb c.active_permille w) (moving t) Idle

-- since when it is quiet, at a quiet frame
abbrev pub quiet_from : Option ℕ → (t : ℕ) → ℕ
quiet_from None t = t
quiet_from (Some q) t = q

-- moving since s, quiet since q
abbrev pub quietened : FallConfig → (s q t : ℕ) → Phase
quietened c s q t = cond (leb c.quiet_grace (t - q)) Idle (Active s (Some q))

abbrev pub in_active : FallConfig → (s : ℕ) → Option ℕ → (w t : ℕ) → Phase
in_active c s q w t =
    cond (leb c.burst_permille w && leb c.min_active (t - s)) (Burst t w)
    (cond (leb w c.still_permille) (quietened c s (quiet_from q t) t) (moving s))

-- a burst at a with peak p
abbrev pub in_burst : FallConfig → (a p w t : ℕ) → Phase
in_burst c a p w t =
    cond (leb w c.still_permille) (Settling a p t)
    (cond (ltb c.settle (t - a)) (moving t) (Burst a (max p w)))

-- on to state p, and nothing is said
abbrev pub silent : FallConfig → Phase → Pushed
silent c p = record { detector = record { config = c; phase = p }; suspicion = None }

-- an event, and the refractory time begins
abbrev pub raised : FallConfig → (b p s t : ℕ) → Pushed
raised c b p s t = record {
  detector = record { config = c; phase = Refractory (end_of c t) };
  suspicion = Some (record { burst_at = b; peak_permille = p; still_since = s; at = t });
}

-- a burst at b with peak p, still since s
abbrev pub in_settling : FallConfig → (b p s w t : ℕ) → Pushed
in_settling c b p s w t =
    cond (leb c.active_permille w) (silent c (moving t))
    (cond (leb w c.still_permille && leb c.still_for (t - s)) (raised c b p s t) (silent c (Settling b p s)))

unfoldable pub step_of : FallConfig → Phase → (w t : ℕ) → Pushed
step_of c (Refractory u) w t = silent c (in_refractory u t)
step_of c Idle w t = silent c (in_idle c w t)
step_of c (Active s q) w t = silent c (in_active c s q w t)
step_of c (Burst a p) w t = silent c (in_burst c a p w t)
step_of c (Settling b p s) w t = in_settling c b p s w t

-- `FallDetector::push`: the settings stay, the state takes a step
unfoldable pub pushed : FallDetector → (w t : ℕ) → Pushed
pushed d w t = step_of d.config d.phase w t
