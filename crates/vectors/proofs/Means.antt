-- The mean of a component, rounded: its magnitude. Assumes nothing.
use mathlib.Core.Path.{◌≡◌, refl}
use Prim.Native.Nat.{ℕ, suc}
use lib.IntN.{ℤ, pos, negsuc, nat_abs}
use Rattle.num.specs.Nearest.{nearest}
use Rattle.num.proofs.Abs.{abs_neg}
use Rattle.vectors.specs.Vector.{div_round}

pub abs-round : (a : ℤ) (w : ℕ) → nat_abs (div_round a w) ≡ nearest (nat_abs a) w
unfolding div_round
abs-round (pos a) w = refl
abs-round (negsuc a) w = abs_neg (pos (nearest (suc a) w))
