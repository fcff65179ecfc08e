-- The settings of falls as bytes (docs/LAYOUT.md): three thresholds, then five durations. Assumes nothing.
use Rattle.std.specs.Prelude.{ℕ, List, ◌+◌}
use Rattle.num.specs.Words.{le_at}
use Rattle.fall.specs.declared.FallConfig.{FallConfig}

abbrev pub config_len : ℕ
config_len = 46

-- the settings that stand from a on
abbrev pub config_at : List ℕ → (a : ℕ) → FallConfig
config_at bytes a = record {
  active_permille = le_at bytes a 2;
  burst_permille = le_at bytes (a + 2) 2;
  still_permille = le_at bytes (a + 4) 2;
  min_active = le_at bytes (a + 6) 8;
  quiet_grace = le_at bytes (a + 14) 8;
  settle = le_at bytes (a + 22) 8;
  still_for = le_at bytes (a + 30) 8;
  refractory = le_at bytes (a + 38) 8;
}
