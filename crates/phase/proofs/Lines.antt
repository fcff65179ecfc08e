-- The sizes of a line's arithmetic, of the values that carry the bounds: sums of a walk, and a line. Assumes nothing.
use Prim.Native.Nat.{◌≤◌, ◌<◌}
use lib.IntN.{ℤ, nat_abs}
use Prim.Native.Nat.{ℕ}
use Rattle.csi.specs.Layout.{max_subcarriers}
use Rattle.phase.specs.Line.{place_most, slope_most}
use Rattle.phase.specs.declared.line.LineSums.{LineSums}
use Rattle.phase.specs.declared.line.Line.{Line}
use Rattle.phase.proofs.Fits.{SlopeFits, slope-fits, InterceptFits, intercept-fits, ResidualFits, residual-fits}

pub slope-of : (s : LineSums) → SlopeFits s.n s.su s.sku
slope-of s = slope-fits s.n s.su s.sku s.enough s.few s.su_small s.sku_small

pub intercept-at : (s : LineSums) (slope : ℤ) → nat_abs slope ≤ slope_most → InterceptFits s.n s.su slope
intercept-at s slope h = intercept-fits s.n s.su slope s.few s.su_small h

pub residual_at : (l : Line) (k : ℕ) (u : ℤ) → k < max_subcarriers → nat_abs u ≤ place_most → ResidualFits u k l.slope l.icpt
residual_at l k u h p = residual-fits u k l.slope l.icpt p h l.slope_small l.icpt_small
