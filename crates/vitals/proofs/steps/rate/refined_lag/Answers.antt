-- `refined_lag` meets its contract. Assumes nothing.
use mathlib.Core.Path.{◌≡◌, refl}
use Prim.Native.Nat.{◌*◌, ◌≤◌, ◌<◌, max}
use native.Mathlib.Decide.{dec_lt}
use native.Mathlib.Omega.{arith}
use borrow.Author.Tests.{lt-ltb, le-ltb}
use borrow.Author.Rules.{sfits_of}
use lib.IntN.{ℤ, pos, negsuc, nat_abs, ◌+ℤ◌}
use mir.Facts.{to_z-of_z, to_z_pos}
use mir.Syntax.{w32}
use Rattle.std.specs.Int.{int_max}
use Rattle.num.proofs.Abs.{abs-add}
use Rattle.num.proofs.Read.{read-abs}
use Rattle.vitals.specs.Rate.{natural}
use Rattle.vitals.proofs.steps.rate.refined_lag.Goals as goal

top : (z : ℤ) → nat_abs z ≤ 2040 → (nat_abs (int_max z (pos 16)) ≡ max 16 (natural z)) × (16 ≤ nat_abs (int_max z (pos 16))) × (nat_abs (int_max z (pos 16)) ≤ 2048)
top (pos n) s = go (dec_lt 16 n)
  where
    go : Dec (16 < n) → (nat_abs (int_max (pos n) (pos 16)) ≡ max 16 n) × (16 ≤ nat_abs (int_max (pos n) (pos 16))) × (nat_abs (int_max (pos n) (pos 16)) ≤ 2048)
    go (yes h) = rw (lt-ltb 16 n h) (omega arith, omega arith, omega arith)
    go (no f) = rw (le-ltb 16 n (omega arith)) (omega arith, omega arith, omega arith)
top (negsuc n) s = (refl, omega arith, omega arith)

pub returns : goal.returns
returns c =
    let b = c.args.best in let d = c.args.delta in
    rw (to_z-of_z {w = w32} (sfits_of {w = w32} c.max.type_inv), c.max.ensures.value, to_z_pos w32 {n = b} (omega arith), read-abs w32 (pos (b * 16)) (omega arith), read-abs w32 d (omega arith), read-abs w32 (pos (b * 16) +ℤ d) (omega (arith, abs-add (pos (b * 16)) d)))
    (top (pos (b * 16) +ℤ d) (omega (arith, abs-add (pos (b * 16)) d)))
