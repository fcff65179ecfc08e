-- A frequency band, its lags, and the settings (vitals.rs, `Band::lags`, `VitalsConfig::breathing`, `VitalsConfig::heart`). Assumes nothing.
use Rattle.std.specs.Prelude.{ℕ, ◌+◌, ◌-◌, ◌*◌, ◌/◌, ◌%◌, max, Bool, cond, ◌&&◌, leb, Result, Ok, Err}
use Rattle.refusal.specs.declared.Refusal.{Refusal}
use Rattle.refusal.specs.declared.Refusal.TheVariants.{Settings}
use Rattle.vitals.specs.declared.band.Band.{Band}
use Rattle.vitals.specs.declared.band.Lags.{Lags}
use Rattle.vitals.specs.declared.config.VitalsConfig.{VitalsConfig}

-- a / b, rounded up
abbrev pub ceil_div : ℕ → ℕ → ℕ
ceil_div a b = (a + (b - 1)) / b

-- the shortest and the longest period of a band, in samples at rate a second, the shortest at least 2
abbrev pub lags_of : Band → ℕ → Lags
lags_of b rate = record { lo = max 2 (rate * 1000 / b.hi_mhz); hi = ceil_div (rate * 1000) b.lo_mhz }

-- what settings have to keep: the rate is 1 to 1,000 and both ends of the band are at least 1
unfoldable pub usable : Band → ℕ → Bool
usable b rate = leb 1 rate && (leb rate 1000 && (leb 1 b.lo_mhz && leb 1 b.hi_mhz))

-- what `Band::lags` answers, and its number
abbrev pub lags_answer : Band → ℕ → Result Lags Refusal
lags_answer b rate = cond (usable b rate) (Ok (lags_of b rate)) (Err Settings)

abbrev pub lags_refusal : Band → ℕ → ℕ
lags_refusal b rate = cond (usable b rate) 0 1

-- 0.15 to 0.55 Hz at ten block means a second, and 0.7 to 2.2 Hz at 25; `as u16` keeps the lowest 16 bits
abbrev pub breathing_at : ℕ → VitalsConfig
breathing_at hz =
    record {
      decim = hz / 10 % 65536;
      rate_hz = 10;
      band = record { lo_mhz = 150; hi_mhz = 550 };
      update_every = 10;
      accept_permille = 400;
      highpass = 0;
    }

abbrev pub heart_at : ℕ → VitalsConfig
heart_at hz =
    record {
      decim = hz / 25 % 65536;
      rate_hz = 25;
      band = record { lo_mhz = 700; hi_mhz = 2200 };
      update_every = 25;
      accept_permille = 400;
      highpass = 25;
    }
