-- Demand 3 of the room, but for its memory and its code: calls that keep their promises over any layout of the memory meet it whole. Assumes nothing.
use mathlib.Core.Path.{refl}
use mathlib.Core.List.{List}
use Prim.Native.Nat.{ℕ}
use Rattle.unit.specs.Calls.{Call, Return}
use Rattle.unit.specs.Promises.{Memory, NewMemory, Keeps}
use Rattle.unit.specs.Demand3.{Demand3, AlikePlainly}
use Rattle.unit.specs.Places.{SamplesAlone}
use Rattle.unit.proofs.Bare as bare
use Rattle.unit.proofs.Demand3 as unit
use Rattle.unit.proofs.Demand3.{demand3}
use Rattle.room_sensing.specs.Sensing.{room, warm_up}
use Rattle.room_sensing.proofs.Sensible.{laws, warms}

pub the-demand : (M : Memory room) → NewMemory room M → (Called : List ℕ → Call room → Return room → List ℕ → Type 0) → Keeps room M Called
    → Demand3 room Called warm_up
the-demand M new Called keeps = demand3 room laws M new Called keeps warm_up warms

-- nothing is held back, so a boundary draws nothing from before it
pub alike-plainly : (M : Memory room) → NewMemory room M → (Called : List ℕ → Call room → Return room → List ℕ → Type 0) → Keeps room M Called
    → AlikePlainly room Called
alike-plainly M new Called keeps = unit.alike-plainly room laws M new Called keeps (λ σ h e. refl)

-- L holds samples alone, and the settings stay
pub samples-alone : SamplesAlone room
samples-alone = bare.samples-alone room (tt, (tt, (tt, tt))) (λ σ h a. refl)
