-- The pairs of one imaginary part, as the code's steps take them. Assumes nothing.
use Rattle.std.specs.Prelude.{◌≡◌, List, map, ℕ, ◌+◌, ◌*◌, ◌≤◌, ◌<◌, ℤ, length, get_or}
use Rattle.csi.specs.Features.{amplitude_of}
use Rattle.census.specs.Census.{bytes, signed_bytes, sector_in, amplitudes}

-- their amplitudes and their sectors
unfoldable pub row_amplitudes : (im : ℤ) → List ℕ
row_amplitudes im = map (amplitude_of im) signed_bytes

unfoldable pub row_sectors : (im : ℤ) → List ℕ
row_sectors im = map (sector_in im) signed_bytes

-- how many pairs there are
abbrev pub pairs : ℕ
pairs = bytes * bytes

-- each number of a row has a count, and each count has room for a row more
pub record Countable (row counts : List ℕ) : Type 0 where
  pub whole : length row ≡ bytes
  pub few : length counts ≤ amplitudes
  pub places : (k : ℕ) → k < bytes → get_or row k 0 < length counts
  pub space : (k : ℕ) → get_or counts k 0 + bytes ≤ pairs
