-- The laws of the sums of amplitudes. Assumes nothing.
use Rattle.std.specs.Prelude.{ℕ, ◌<◌, List, refl}
use Rattle.std.proofs.Common.{sym, ◌∙◌, arith}
use Rattle.std.proofs.lemmas.List.{get_or_default}
use Rattle.std.proofs.Math.Nat.{add_left_comm, mul-le-mul_right}
use Rattle.window.specs.Sums.{Lawful}
use Rattle.presence.specs.Wander.{amplitudes, ColumnRange, column_wander, window_wander}
use Rattle.presence.specs.Presence.{presence_kind}
use Rattle.sliding.specs.Columns.{Ranged, Entrywise, Columnwise}

pub lawful : Lawful amplitudes
lawful = record { exchange = λ a b c. add_left_comm a b c; cancel = λ a x y e. omega arith }

pub ranged : Ranged amplitudes ColumnRange
ranged =
    record {
      none = record { most = omega arith; squares = omega arith };
      more = λ n x a b h r. record { most = omega (arith, r.most); squares = omega (arith, r.squares, mul-le-mul_right {m = x} {n = 65535} x (omega arith)) };
      wider = λ n m a b h r. record { most = omega (arith, r.most); squares = r.squares };
    }

pub some_unit : 0 < presence_kind.unit
some_unit = omega arith

pub columnwise : Columnwise presence_kind ColumnRange column_wander
unfolding window_wander
columnwise = record { lawful = lawful; ranged = ranged; wander = λ window. refl }

pub entrywise : Entrywise (λ (entry : ℕ). entry) (λ (frame : List ℕ). frame)
entrywise = record { long = λ l. refl; each = λ l i e h is. get_or_default l i 0 e h ∙ sym is }
