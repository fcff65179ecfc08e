-- A baseline as the calls gave it is in range, so that no call refuses it as out of range. Assumes nothing.
use mathlib.Core.Path.{◌≡◌, sym, ap, ◌∙◌}
use mathlib.Core.Bool.{Bool, true, cond, not}
use mathlib.Core.List.{[], ◌∷◌}
use Prim.Native.Nat.{ℕ, ◌≤◌}
use native.Mathlib.Omega.{arith}
use borrow.Author.Tests.{eqb-false}
use lib.Dec.{ltb, eqb}
use Rattle.num.proofs.Cond.{cond-holds}
use Rattle.num.proofs.Logic.{never}
use Rattle.csi.specs.Layout.{max_subcarriers}
use Rattle.csi.specs.declared.Features.{Features}
use Rattle.fingerprint.specs.Baseline.{max_frames, max_variance, fresh, good, calibrated_of, standing}
use Rattle.fingerprint.specs.Given.{calibrated_by, NewIsGood, StaysGood, NeverRefusedBy2}
use Rattle.fingerprint.specs.declared.Baseline.{Baseline}
use Rattle.std.specs.Prelude.{Result}
use Rattle.refusal.specs.declared.Refusal.{Refusal}
use Rattle.fingerprint.proofs.Good.{facts, fresh-good, fed-good}

pub new-is-good : NewIsGood
new-is-good = fresh-good

-- one frame, whatever it is answered
step : (b : Baseline) (f : Features) → good b ≡ true → f.variance ≤ max_variance → good (standing b (calibrated_of b f)) ≡ true
unfolding calibrated_of
step b f g v =
    let P : Result Baseline Refusal → Type 0 = λ c. good (standing b c) ≡ true in
    cond-holds P (not (good b)) _ _ (λ _. g)
    (λ _. cond-holds P (ltb max_subcarriers f.count) _ _ (λ _. g)
    (λ _. cond-holds P (eqb f.count 0) _ _ (λ _. g)
    (λ _. cond-holds P (eqb b.frames max_frames) _ _ (λ _. g)
    (λ e. fed-good b f.variance g (omega (arith, (facts b g).few, eqb-false b.frames max_frames e)) v))))

pub stays-good : StaysGood
stays-good b [] g v = g
stays-good b (f ∷ fs) g v = stays-good (standing b (calibrated_of b f)) fs (step b f g v.0) v.1

-- of a baseline in range only later refusals are left
module _ (g : Bool) (e : g ≡ true) where
  later : (n : ℕ) → (n ≡ 2 → ⊥) → cond (not g) 2 n ≡ 2 → ⊥
  later n h = cond-holds (λ (k : ℕ). k ≡ 2 → ⊥) (not g) 2 n (λ t z. absurd (never (ap not (sym e) ∙ t))) (λ _. h)

  none : (◌≡◌ {A = ℕ} (cond g 0 2) 2) → ⊥
  none = rw e (λ z. omega arith)

pub never-refused-by-2 : NeverRefusedBy2
never-refused-by-2 fs f v =
    let b = calibrated_by fresh fs in
    let e = stays-good fresh fs fresh-good v in
    let P : ℕ → Type 0 = λ k. k ≡ 2 → ⊥ in
    let many = ltb max_subcarriers f.count in (
      later (good b) e _
          (cond-holds P many _ _ (λ _ z. omega arith)
          (λ _. cond-holds P (eqb f.count 0) _ _ (λ _ z. omega arith)
          (λ _. cond-holds P (eqb b.frames max_frames) _ _ (λ _ z. omega arith) (λ _ z. omega arith)))),
      none (good b) e,
      later (good b) e _ (cond-holds P many _ _ (λ _ z. omega arith) (λ _ z. omega arith)),
    )
