-- `Energy::permille` meets its contract: one division after the other. Assumes nothing.
use mathlib.Core.Path.{◌≡◌, ap, ◌∙◌}
use Prim.Native.Nat.{ℕ, ◌-◌, ◌*◌, ◌/◌}
use native.Mathlib.Nat.{mul_comm, div-div-eq-div-mul}
use native.Mathlib.Omega.{arith}
use Rattle.vitals.proofs.steps.energy.Energy.permille.Goals as goal

quotient : (top e d : ℕ) {q : ℕ} → q ≡ top / e → q / d ≡ top / (d * e)
quotient top e d h = ap (λ (x : ℕ). x / d) h ∙ div-div-eq-div-mul top e d ∙ ap (λ (k : ℕ). top / k) (mul_comm e d)

pub returns : goal.returns
returns c = omega (arith, c.min.ensures, quotient (c.args.size * (1000 * c.args.self.n)) c.args.self.sum (c.args.self.n - c.args.lag) c.share.ensures)
