-- The rings behind the header: presence, phase, breathing, heart (docs/LAYOUT.md). Assumes nothing.
use Rattle.std.specs.Prelude.{List, ℕ, ◌+◌, ◌*◌, take, drop}
use Rattle.estimator.specs.State.{ring_length}
use Rattle.room_sensing.specs.declared.settings.Settings.{Settings}

-- the bytes of each ring's rows
pub record Rings : Type 0 where
  pub presence : List ℕ
  pub phase : List ℕ
  pub breathing : List ℕ
  pub heart : List ℕ

-- the k bytes from a on
abbrev pub part_at : (a k : ℕ) → List ℕ → List ℕ
part_at a k rows = take k (drop a rows)

module _ (σ : Settings) where
  -- where each begins, and the length of all
  abbrev pub phase_from : ℕ
  phase_from = ring_length σ.w

  abbrev pub breathing_from : ℕ
  breathing_from = 2 * ring_length σ.w

  abbrev pub heart_from : ℕ
  heart_from = 2 * ring_length σ.w + ring_length σ.n

  abbrev pub rows_length : ℕ
  rows_length = 2 * ring_length σ.w + 2 * ring_length σ.n

  abbrev pub rings_of : (rows : List ℕ) → Rings
  rings_of rows =
      record {
        presence = part_at 0 (ring_length σ.w) rows;
        phase = part_at phase_from (ring_length σ.w) rows;
        breathing = part_at breathing_from (ring_length σ.n) rows;
        heart = part_at heart_from (ring_length σ.n) rows;
      }
