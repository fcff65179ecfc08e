-- A worked case: twelve blocks of one column that repeat every four. Assumes nothing.
use mathlib.Core.Path.{◌≡◌, refl}
use mathlib.Core.Bool.{true, false}
use mathlib.Core.List.{List, [], ◌∷◌, ◌++◌}
use Prim.Native.Nat.{ℕ}
use Rattle.num.specs.Lists.{build, keep, first}
use Rattle.num.specs.Sum.{sum_z, dot_z}
use Rattle.num.specs.Wrap.{wrap16}
use Rattle.window.specs.Window.{column}
use Rattle.vitals.specs.Series.{centred, highpassed}
use Rattle.vitals.specs.Correlation.{corr_of, curve}
use Rattle.vitals.specs.Peak.{peak_or, highest}
use Rattle.vitals.specs.declared.config.VitalsConfig.{VitalsConfig}
use Rattle.estimator.specs.Estimate.{series, columns_of, rhythm_of, estimate_of}

abbrev beat : List (List ℕ)
beat = (100 ∷ []) ∷ (110 ∷ []) ∷ (100 ∷ []) ∷ (90 ∷ []) ∷ []

abbrev settings : ℕ → VitalsConfig
settings lo =
    record {
      decim = 1;
      rate_hz = 10;
      band = record { lo_mhz = lo; hi_mhz = 5000 };
      update_every = 1;
      accept_permille = 400;
      highpass = 0;
    }

-- a period of four samples at 10 Hz is 150.0 a minute
four : estimate_of (settings 1000) 7 (beat ++ (beat ++ beat)) ≡ record { bpm_x10 = 1500; confidence = 1000; lag_x16 = 64; accepted = true; at = 7 }
unfolding estimate_of rhythm_of curve columns_of series column wrap16 centred highpassed corr_of build keep sum_z dot_z peak_or first highest
four = refl

-- on the edge of a band of lags 2 to 4 the same rhythm is not accepted
edge : estimate_of (settings 2500) 7 (beat ++ (beat ++ beat)) ≡ record { bpm_x10 = 1500; confidence = 1000; lag_x16 = 64; accepted = false; at = 7 }
unfolding estimate_of rhythm_of curve columns_of series column wrap16 centred highpassed corr_of build keep sum_z dot_z peak_or first highest
edge = refl
