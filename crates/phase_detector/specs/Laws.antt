-- The laws of the sums of unit vectors. Assumes nothing.
use Rattle.std.specs.Prelude.{ℕ, suc, ◌*◌, ◌<◌, ◌≤◌, List, length, ℤ, nat_abs, ◌+ℤ◌}
use Rattle.std.proofs.Common.{sym, ◌∙◌, ap, arith}
use Rattle.std.proofs.Math.Nat.{div-le_of_le-mul}
use Rattle.std.proofs.Math.ListN.{length-map, get_or-map}
use Rattle.std.proofs.lemmas.List.{get_or_default}
use Rattle.num.proofs.Abs.{abs-add}
use Rattle.num.proofs.AddZ.{+ℤ-left-comm, +ℤ-left-cancel}
use Rattle.window.specs.Window.{width}
use Rattle.window.specs.Sums.{Lawful, column_sum, window_mean}
use Rattle.window.proofs.Mean.{sum_to-le}
use Rattle.vectors.specs.Vector.{bits, cos_at, sin_at, column_ppm}
use Rattle.vectors.proofs.Sizes.{cos-le, sine-le, ppm-le}
use Rattle.sliding.specs.Columns.{Ranged, Entrywise, Columnwise}
use Rattle.phase_detector.specs.Wander.{angles, window_ppm, ColumnRange}
use Rattle.phase_detector.specs.Phase.{phase_kind, entries}

pub lawful : Lawful angles
lawful = record { exchange = +ℤ-left-comm; cancel = +ℤ-left-cancel }

-- one unit vector more
component : (a b : ℤ) (n : ℕ) → nat_abs a ≤ 16384 → nat_abs b ≤ 16384 * n → nat_abs (a +ℤ b) ≤ 16384 * suc n
component a b n h k = omega (arith, abs-add a b)

pub ranged : Ranged angles ColumnRange
ranged =
    record {
      none = record { cosines = omega arith; sines = omega arith };
      more = λ n x a b h r. record { cosines = component (cos_at x) a n (cos-le x) r.cosines; sines = component (sin_at x) b n (sine-le x) r.sines };
      wider = λ n m a b h r. record { cosines = omega (arith, r.cosines); sines = omega (arith, r.sines) };
    }

-- no variance is above a million, and so no mean of some
window-le : (window : List (List ℕ)) → window_ppm window ≤ 1000000
unfolding window_mean
window-le window =
    div-le_of_le-mul (width window)
    (sum_to-le (width window) 1000000 (λ (sc : ℕ). column_ppm (length window) (column_sum angles cos_at window sc) (column_sum angles sin_at window sc))
    (λ k h. ppm-le (length window) (column_sum angles cos_at window k) (column_sum angles sin_at window k)))

pub some_unit : 0 < phase_kind.unit
some_unit = omega arith

pub columnwise : Columnwise phase_kind ColumnRange column_ppm
columnwise = record { lawful = lawful; ranged = ranged; wander = λ window. omega (arith, window-le window) }

pub entrywise : Entrywise bits entries
entrywise =
    record {
      long = λ l. length-map l bits;
      each = λ l i e h is. get_or_default (entries l) i 0 (bits e) (omega (arith, length-map l bits)) ∙ get_or-map bits l i e ∙ ap bits (sym is);
    }
