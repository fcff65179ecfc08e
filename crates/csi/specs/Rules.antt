-- Rules of layouts and amplitudes. Theorems in proofs/Rules.antt. Assumes nothing.
use Rattle.std.specs.Prelude.{◌≡◌, List, [], ◌∷◌, map, ℕ, ◌≤◌, ◌<◌, length, get_or}
use Rattle.csi.specs.Features.{amplitude_at}
use Rattle.csi.specs.Layout.{layouts, entries_of}

-- how many entries the layouts use, from tag 1 on
abbrev pub LayoutCounts : Type 0
LayoutCounts = map (λ l. length (entries_of l)) layouts ≡ 52 ∷ 56 ∷ 56 ∷ 64 ∷ []

-- of bytes, no amplitude is above 724
abbrev pub AmplitudesAtMost724 : Type 0
AmplitudesAtMost724 = (iq : List ℕ) (k : ℕ) → ((i : ℕ) → get_or iq i 0 < 256) → amplitude_at iq k ≤ 724
