-- `read_column` meets its contract: the two parts are the slots in turn. Assumes nothing.
use mathlib.Core.Path.{◌≡◌, sym, ap, ◌∙◌}
use mathlib.Core.List.{List}
use Prim.Native.Nat.{ℕ, ◌+◌, ◌-◌, ◌≤◌, ◌<◌}
use native.Mathlib.Decide.{dec_lt}
use native.Mathlib.Omega.{arith}
use lib.IntN.{ℤ}
use Rattle.window.specs.Window.{turn}
use Rattle.vitals.specs.Series.{at}
use Rattle.estimator.specs.Steps.{entry_of, Read}
use Rattle.estimator.proofs.Columns.{column-read, turn_low, turn-high}
use Rattle.estimator.proofs.column.read_column.Goals as goal

-- the slots from `next` on, and behind them those from the first
round : (n next sc : ℕ) (bytes : List ℕ) (x y z : List ℤ) → next ≤ n → Read bytes next (n - next) sc 0 x y → Read bytes 0 next sc (n - next) y z
    → (k : ℕ) → k < n → Dec (next + k < n) → at z k ≡ entry_of bytes (turn (next + k) n) sc
round n next sc bytes x y z h one two k l (yes a) =
    let e : 0 + k ≡ k = omega arith in
    two.before k (omega arith) ∙ ap (at y) (sym e) ∙ one.entries k (omega arith) ∙ ap (λ (slot : ℕ). entry_of bytes slot sc) (sym (turn_low (next + k) n a))
round n next sc bytes x y z h one two k l (no g) =
    let j : ℕ = k - (n - next) in
    let e : k ≡ n - next + j = omega arith in
    let f : 0 + j ≡ next + k - n = omega arith in
    ap (at z) e ∙ two.entries j (omega arith) ∙ ap (λ (slot : ℕ). entry_of bytes slot sc) (f ∙ sym (turn-high (next + k) n (omega arith)))

pub returns-clause-column : goal.returns-clause-column
returns-clause-column c =
    let v = c.args.view in
    let one = c.read_slots.ensures in let two = c.read_slots-2.ensures in
    column-read v.n v.next v.count v.rows.now v.inside c.args.sc c.requires.1 v.narrow _ (two.long ∙ one.long ∙ c.requires.0)
    (λ k h. round v.n v.next c.args.sc v.rows.now _ _ _ (omega (arith, v.inside)) one two k h (dec_lt (v.next + k) v.n))
