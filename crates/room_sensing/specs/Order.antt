-- A window has no order (docs/SPEC.md, under this title), of the room: from the W-th watched sample since a boundary on, permille and ppm do not depend
-- on the order of the last W. Said of the plain room, whose answers the unit's are. Theorem in proofs/Order.antt. Assumes nothing.
use Rattle.std.specs.Prelude.{◌≡◌, List, [], ◌∷◌, map, ℕ, ◌≤◌, length}
use Rattle.window.specs.Window.{last_of}
use Rattle.window.specs.Order.{Reordered}
use Rattle.unit.specs.Records.{watched, calibrated, Event, took, noted, whole, sample}
use Rattle.unit.specs.Answers.{told}
use Rattle.unit.specs.Room.{Room, room_answers, room_next}
use Rattle.unit.specs.Places.{Place, room_at}
use Rattle.room_sensing.specs.Answers.{sensed}
use Rattle.room_sensing.specs.Sensing.{room, tag_of, iq_of}
use Rattle.room_sensing.specs.declared.answer.Watched.{Watched}

-- the watched samples of L, oldest first
abbrev pub watched_in : List Event → List (List ℕ)
watched_in [] = []
watched_in (took watched body ∷ L) = body ∷ watched_in L
watched_in (took calibrated body ∷ L) = watched_in L
watched_in (noted n body ∷ L) = watched_in L

-- the I/Q of the last w of them. Times, signal strengths and channels are left out: they may be any
abbrev pub last_iq : (w : ℕ) → List Event → List (List ℕ)
last_iq w L = map iq_of (last_of w (watched_in L))

-- the plain room at a place, once this sample is watched there
abbrev pub room_with : Place room → (body : List ℕ) → Room room
room_with P body = room_next room (room_at room P) (whole (sample watched) body)

-- W of that room, and the I/Q of its last W watched samples
abbrev pub window_at : Place room → (body : List ℕ) → ℕ
window_at P body = (room_with P body).settings.w

abbrev pub last_iq_at : Place room → (body : List ℕ) → List (List ℕ)
last_iq_at P body = last_iq (window_at P body) (room_with P body).L

-- a watched sample is answered by this line there, and it is the W-th since the boundary or a later one
pub record FullLine (P : Place room) (body : List ℕ) (line : Watched) : Type 0 where
  pub answered : room_answers room (room_at room P) (whole (sample watched) body) ≡ told (sensed line) ∷ []
  pub full : window_at P body ≤ length (watched_in (room_with P body).L)

pub record SameWander (one other : Watched) : Type 0 where
  pub permille : one.permille ≡ other.permille
  pub ppm : one.ppm ≡ other.ppm

-- Two units, each with any past: their lines have the same permille and the same ppm, if their samples have one tag and the last W of both have the
-- same I/Q in any order (so W is the same).
abbrev pub RoomHasNoOrder : Type 0
RoomHasNoOrder =
    (P Q : Place room) (body body' : List ℕ) (line line' : Watched) → FullLine P body line → FullLine Q body' line'
    → tag_of body ≡ tag_of body' → Reordered (last_iq_at P body) (last_iq_at Q body') → SameWander line line'
