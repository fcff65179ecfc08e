-- The shape of an accepted sample's phases: as many as the layout uses entries, at the front of an array of the most there can be.
-- Assumes nothing.
use mathlib.Core.Path.{◌≡◌, refl, ap, ◌∙◌}
use mathlib.Core.List.{List, [], ◌∷◌, map}
use mathlib.Core.Bool.{true}
use Prim.Native.Nat.{ℕ, suc, ◌-◌, ◌≤◌}
use native.Mathlib.Omega.{arith}
use lib.IntN.{ℤ, pos, ◌+ℤ◌, ◌-ℤ◌}
use lib.ListN.{length, replicate, length-append, length-map, length-replicate}
use Rattle.num.specs.Wrap.{wrap16}
use Rattle.csi.specs.Layout.{max_subcarriers, layout_of, entries_of, known}
use Rattle.csi.proofs.Entries.{usable}
use Rattle.phase.specs.Angle.{entry_angle}
use Rattle.phase.specs.Line.{walk, unwrapped, residuals, phases_of}
use Rattle.phase.specs.Phases.{sanitised, frame_phases}

walk-long : (at prev : ℤ) (angles : List ℤ) → length (walk at prev angles) ≡ length angles
unfolding walk
walk-long at prev [] = refl
walk-long at prev (a ∷ rest) = ap suc (walk-long (at +ℤ wrap16 (a -ℤ prev)) a rest)

residuals-long : (slope icpt : ℤ) (k : ℕ) (us : List ℤ) → length (residuals slope icpt k us) ≡ length us
unfolding residuals
residuals-long slope icpt k [] = refl
residuals-long slope icpt k (u ∷ us) = ap suc (residuals-long slope icpt (suc k) us)

-- a phase for each angle
pub phases-long : (angles : List ℤ) → length (phases_of angles) ≡ length angles
unfolding phases_of unwrapped
phases-long angles = residuals-long _ _ 0 (unwrapped angles) ∙ walk-long (pos 0) (pos 0) angles

module _ (iq : List ℕ) (tag : ℕ) where
  abbrev own : List ℤ
  own = map (entry_angle iq) (entries_of (layout_of tag))

  -- the count is the layout's
  pub frame-count : (frame_phases iq tag).count ≡ length (entries_of (layout_of tag))
  unfolding frame_phases sanitised
  frame-count = length-map (entries_of (layout_of tag)) (entry_angle iq)

  -- of a known tag they are all that the array has room for
  pub frame-long : known tag ≡ true → length (frame_phases iq tag).phase ≡ max_subcarriers
  unfolding frame_phases sanitised
  frame-long e =
      let a = length-append (phases_of own) (replicate (max_subcarriers - length own) (pos 0)) in
      let b = length-replicate {A = ℤ} (max_subcarriers - length own) (pos 0) in
      let c = phases-long own in let d = length-map (entries_of (layout_of tag)) (entry_angle iq) in
      omega (arith, (usable tag e).most)

  -- all of them stand in the array, whatever the tag
  pub frame-fits : (frame_phases iq tag).count ≤ length (frame_phases iq tag).phase
  unfolding frame_phases sanitised
  frame-fits = omega (arith, length-append (phases_of own) (replicate (max_subcarriers - length own) (pos 0)), phases-long own)
