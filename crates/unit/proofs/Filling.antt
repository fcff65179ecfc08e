-- A sensing warms (`Warms`) by what holds of its detectors along L, step by step.
use mathlib.Core.Path.{◌≡◌, refl, sym, ap, subst}
use Prim.Native.Nat.{ℕ, ◌+◌}
use native.Mathlib.Omega.{arith}
use mathlib.Core.Bool.{true}
use mathlib.Core.Option.{some}
use mathlib.Core.List.{List, [], ◌∷◌, ◌++◌, foldl, append_assoc, append-nil}
use lib.Dec.{ltb}
use Rattle.unit.specs.Records.{Mark, Event, took, noted}
use Rattle.unit.specs.Sensing.{Sensing, Now, after, count, how_many, detect, Fits, OfTag, WarmUp, Warms}

pub many-took : (k m : Mark) (body : List ℕ) (L : List Event) → how_many k (L ++ took m body ∷ []) ≡ how_many k L + count k m
many-took k m body [] = omega arith
many-took k m body (took j b ∷ L) = omega (arith, many-took k m body L)
many-took k m body (noted n b ∷ L) = many-took k m body L

pub many-noted : (k : Mark) (n : ℕ) (body : List ℕ) (L : List Event) → how_many k (L ++ noted n body ∷ []) ≡ how_many k L
many-noted k n body [] = refl
many-noted k n body (took j b ∷ L) = ap (λ (m : ℕ). count k j + m) (many-noted k n body L)
many-noted k n body (noted m b ∷ L) = many-noted k n body L

module _ (S : Sensing) where
  -- `Fed σ t L x`: from the settings σ, x was made of the events L, whose samples have the tag t
  pub record Fills (W : WarmUp S) : Type 1 where
    pub Fed : S.Settings → ℕ → List Event → Now S → Type 0
    pub new : (g : S.Given) (t : ℕ) → S.legal g ≡ true → Fed (S.settings g) t [] (record { settings = S.settings g; held = S.fresh (S.settings g) })
    pub fed : (σ : S.Settings) (t : ℕ) (L : List Event) (x : Now S) (e : Event) → Fed σ t L x → Fits S σ t e → Fed σ t (L ++ e ∷ []) (after S x e)
    pub own : (σ : S.Settings) (t : ℕ) (L : List Event) (x : Now S) (e : Event) → Fed σ t L x → Fits S σ t e → W.line (S.find x.settings x.held e) ≡ true
        → W.says (S.find x.settings x.held e) ≡ ltb (W.fed_in (L ++ e ∷ [])) (W.width σ)
    pub released : (σ : S.Settings) (t : ℕ) (L : List Event) (x : Now S) (e : Event) (f : S.Finding) → Fed σ t L x
        → S.releases x.settings x.held e ≡ some f → W.says f ≡ ltb (W.fed_in (L ++ e ∷ [])) (W.width σ)

  module _ (W : WarmUp S) (F : Fills W) where
    fed-from : (σ : S.Settings) (t : ℕ) (K L : List Event) (x : Now S) → F.Fed σ t K x → OfTag S σ t L → F.Fed σ t (K ++ L) (foldl (after S) x L)
    fed-from σ t K [] x f T = subst (λ (l : List Event). F.Fed σ t l x) (sym (append-nil K)) f
    fed-from σ t K (e ∷ L) x f T =
        subst (λ (l : List Event). F.Fed σ t l (foldl (after S) (after S x e) L)) (append_assoc K (e ∷ []) L)
        (fed-from σ t (K ++ e ∷ []) L (after S x e) (F.fed σ t K x e f T.0) T.1)

    fed-all : (g : S.Given) → S.legal g ≡ true → (t : ℕ) (L : List Event) → OfTag S (S.settings g) t L → F.Fed (S.settings g) t L (detect S (S.settings g) L)
    unfolding detect
    fed-all g ok t L T = fed-from (S.settings g) t [] L _ (F.new g t ok) T

    pub warms-by : Warms S W
    warms-by =
        record {
          own = λ g ok t L e T f. F.own (S.settings g) t L (detect S (S.settings g) L) e (fed-all g ok t L T) f;
          released = λ g ok t L e f T. F.released (S.settings g) t L (detect S (S.settings g) L) e f (fed-all g ok t L T);
        }
