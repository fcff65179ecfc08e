-- The estimate, a function of the window's blocks alone (vitals.rs, `estimate`). Assumes nothing.
use Rattle.std.specs.Prelude.{false, cond, List, map, ℕ, ◌+◌, ◌-◌, min, eqb, ltb, leb, length, ℤ, pos}
use Rattle.num.specs.Lists.{build}
use Rattle.num.specs.Wrap.{wrap16}
use Rattle.window.specs.Window.{column, width}
use Rattle.vitals.specs.Band.{lags_of}
use Rattle.vitals.specs.Series as samples
use Rattle.vitals.specs.Series.{prepared}
use Rattle.vitals.specs.Correlation.{rhythmic, curve}
use Rattle.vitals.specs.Peak.{best_lag}
use Rattle.vitals.specs.Rate.{vertex, refined, bpm_of, confidence_of, accepted_at}
use Rattle.vitals.specs.declared.config.VitalsConfig.{VitalsConfig}
use Rattle.estimator.specs.declared.Vitals.{Vitals}

-- a column in the order of time; a block mean above 32,767 wraps
unfoldable pub series : List (List ℕ) → ℕ → List ℤ
series blocks sc = map (λ (mean : ℕ). wrap16 (pos mean)) (column blocks sc)

-- the columns, prepared for a moving average of m, that have energy
unfoldable pub columns_of : ℕ → List (List ℕ) → List (List ℤ)
columns_of m blocks = rhythmic (build (width blocks) (λ sc. prepared m (series blocks sc)))

-- no rate and no confidence
abbrev pub empty_at : ℕ → Vitals
empty_at time = record { bpm_x10 = 0; confidence = 0; lag_x16 = 0; accepted = false; at = time }

-- the lag in sixteenths, moved to the top of the parabola through s at the lag best and beside it
abbrev pub lag_at : List ℤ → ℕ → ℕ
lag_at s best = refined best (vertex (samples.at s (best - 1)) (samples.at s best) (samples.at s (best + 1)))

-- what is read from the summed correlations s of `used` columns at the lag best, for a band of lags lo to hi
abbrev pub read_at : VitalsConfig → (time lo hi used : ℕ) → List ℤ → ℕ → Vitals
read_at cfg time lo hi used s best =
    record {
      bpm_x10 = bpm_of cfg.rate_hz (lag_at s best);
      confidence = confidence_of (samples.at s best) used;
      lag_x16 = lag_at s best;
      accepted = accepted_at lo hi best (confidence_of (samples.at s best) used) cfg.accept_permille;
      at = time;
    }

-- no column with energy: the empty estimate
unfoldable pub rhythm_of : VitalsConfig → (time lo hi : ℕ) → List (List ℤ) → Vitals
rhythm_of cfg time lo hi xs = cond (eqb (length xs) 0) (empty_at time) (read_at cfg time lo hi (length xs) (curve xs hi) (best_lag (curve xs hi) hi))

-- the lags that are looked at: those of the band, the longest at most two below the window's blocks
abbrev pub lowest : VitalsConfig → ℕ
lowest cfg = (lags_of cfg.band cfg.rate_hz).lo

abbrev pub longest : VitalsConfig → ℕ → ℕ
longest cfg n = min (lags_of cfg.band cfg.rate_hz).hi (n - 2)

-- the most lags that are summed: 1 to hi + 1
abbrev pub max_lags : ℕ
max_lags = 128

-- a band without lags between its ends, or more than 128 lags: the empty estimate
unfoldable pub estimate_of : VitalsConfig → (time : ℕ) → List (List ℕ) → Vitals
estimate_of cfg time blocks =
    cond (leb (longest cfg (length blocks)) (lowest cfg)) (empty_at time)
    (cond (ltb max_lags (longest cfg (length blocks) + 1)) (empty_at time)
    (rhythm_of cfg time (lowest cfg) (longest cfg (length blocks)) (columns_of cfg.highpass blocks)))
