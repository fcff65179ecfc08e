-- How far the binary digits of a square root are known. Assumes nothing.
use Rattle.std.specs.Prelude.{ℕ, ◌+◌, ◌*◌, ◌≤◌, ◌<◌}

-- the square root of s is at least r and below r + w, which is at most 256
pub record Between (s r w : ℕ) : Type 0 where
  pub low : r * r ≤ s
  pub high : s < (r + w) * (r + w)
  pub byte : r + w ≤ 256
