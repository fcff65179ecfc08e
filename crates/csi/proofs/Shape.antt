-- The shape of features: how many amplitudes are in use, and how long the array is. Features that a sample gave are refused by no call.
-- Assumes nothing.
use mathlib.Core.Path.{◌≡◌, refl, ◌∙◌}
use mathlib.Core.List.{List, map}
use Prim.Native.Nat.{ℕ, ◌≤◌}
use native.Mathlib.Omega.{arith}
use lib.Dec.{eqb}
use lib.ListN.{length, length-append, length-map, length-replicate}
use lib.Seq.{length-take-le}
use Rattle.num.specs.Sum.{total}
use Rattle.num.proofs.Cond.{cond-holds}
use Rattle.csi.specs.Features.{amplitude_at, describe, features_of, used, scale, normalised_of}
use Rattle.csi.specs.Layout.{max_subcarriers, layout_of, entries_of, frame_refusal}
use Rattle.csi.specs.declared.Features.{Features}
use Rattle.csi.proofs.Answers.{served}
use Rattle.csi.proofs.Entries.{usable}

describe-count : (xs : List ℕ) → (describe xs).count ≡ length xs
unfolding describe
describe-count xs = refl

describe-long : (xs : List ℕ) → length xs ≤ max_subcarriers → length (describe xs).amplitude ≡ max_subcarriers
unfolding describe
describe-long xs h = simp (length-append, length-replicate) (omega arith)

-- features of I/Q bytes: 1 to 64 amplitudes in an array of 64
module _ (iq : List ℕ) (tag : ℕ) where
  pub features-count : (features_of iq tag).count ≡ length (entries_of (layout_of tag))
  unfolding features_of
  features-count = describe-count (map (amplitude_at iq) (entries_of (layout_of tag))) ∙ length-map (entries_of (layout_of tag)) (amplitude_at iq)

  module _ (e : frame_refusal (length iq) tag ≡ 0) where
    pub features-some : 1 ≤ (features_of iq tag).count
    features-some = omega (arith, features-count, (usable tag (served (length iq) tag e).0).some)

    pub features-most : (features_of iq tag).count ≤ max_subcarriers
    features-most = omega (arith, features-count, (usable tag (served (length iq) tag e).0).most)

    pub features-long : length (features_of iq tag).amplitude ≡ max_subcarriers
    unfolding features_of
    features-long = describe-long (map (amplitude_at iq) (entries_of (layout_of tag))) (omega (arith, length-map (entries_of (layout_of tag)) (amplitude_at iq), (usable tag (served (length iq) tag e).0).most))

-- normalised features: as many, in an array as long
module _ (f : Features) (few : f.count ≤ max_subcarriers) (array : length f.amplitude ≡ max_subcarriers) where
  abbrev divided : Features
  divided = describe (map (scale f.count (total (used f))) (used f))

  as_many : length (map (scale f.count (total (used f))) (used f)) ≡ f.count
  as_many = length-map (used f) (scale f.count (total (used f))) ∙ length-take-le f.count f.amplitude (omega arith)

  pub normalised-count : (normalised_of f).count ≡ f.count
  unfolding normalised_of
  normalised-count =
      cond-holds (λ (g : Features). g.count ≡ f.count) (eqb (total (used f)) 0) f divided
      (λ e. refl) (λ e. describe-count (map (scale f.count (total (used f))) (used f)) ∙ as_many)

  pub normalised-long : length (normalised_of f).amplitude ≡ max_subcarriers
  unfolding normalised_of
  normalised-long =
      cond-holds (λ (g : Features). length g.amplitude ≡ max_subcarriers) (eqb (total (used f)) 0) f divided
      (λ e. array) (λ e. describe-long (map (scale f.count (total (used f))) (used f)) (omega (arith, as_many)))
