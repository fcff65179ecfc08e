-- The cosine is the sine a quarter turn on. Assumes nothing.
use mathlib.Core.Path.{◌≡◌, refl}
use Prim.Native.Nat.{ℕ, zero, suc, ◌+◌, ◌%◌, ◌<◌}
use native.Mathlib.Omega.{arith}
use lib.IntN.{ℤ, pos, neg_ℤ}
use Rattle.vectors.specs.Vector.{by_quarter}

-- the sine's four values
abbrev pub sine_by : ℕ → ℕ → ℕ → ℤ
sine_by q s c = by_quarter q (pos s) (pos c) (neg_ℤ (pos s)) (neg_ℤ (pos c))

pub quarter-on : (q s c : ℕ) → q < 4 → sine_by ((q + 1) % 4) s c ≡ by_quarter q (pos c) (neg_ℤ (pos s)) (neg_ℤ (pos c)) (pos s)
quarter-on zero s c h = refl
quarter-on (suc zero) s c h = refl
quarter-on (suc (suc zero)) s c h = refl
quarter-on (suc (suc (suc zero))) s c h = refl
quarter-on (suc (suc (suc (suc q)))) s c h = absurd (omega arith)
