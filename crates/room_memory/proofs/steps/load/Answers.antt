-- `room_memory::steps::load` meets its contract. Assumes nothing.
use mathlib.Core.Path.{◌∙◌}
use mathlib.Core.List.{map-id}
use Rattle.room_memory.specs.Header.{state_at}
use Rattle.room_memory.proofs.steps.load.Goals as goal

pub returns : goal.returns
unfolding state_at
returns c =
    rw (
      c.numbers_at.ensures ∙ map-id _,
      c.numbers_at-2.ensures ∙ map-id _,
      c.numbers_at-3.ensures,
      c.numbers_at-4.ensures,
      c.detector_in.ensures,
      c.detector_in-2.ensures,
      c.progress_in.ensures,
      c.numbers_at-5.ensures ∙ map-id _,
      c.progress_in-2.ensures,
      c.numbers_at-6.ensures ∙ map-id _,
      c.baseline_in.ensures,
      c.fall_in.ensures,
    )
