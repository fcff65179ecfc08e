-- The theorems of specs/Rules.antt.
use mathlib.Core.Path.{◌≡◌, refl, ◌∙◌}
use mathlib.Core.Bool.{true}
use mathlib.Core.List.{List}
use Prim.Native.Nat.{ℕ, ◌^◌, ◌≤◌, ◌<◌}
use native.Mathlib.Omega.{arith}
use borrow.Author.Tests.{leb-true}
use lib.ListN.{length}
use Rattle.num.specs.Sum.{total}
use Rattle.std.proofs.lemmas.Bool.{and_parts}
use Rattle.num.proofs.Partition.{partition, all_of}
use Rattle.fall.specs.declared.FallConfig.{FallConfig}
use Rattle.fall.specs.Fall.{new_detector}
use Rattle.chance.specs.Chance.{sequences, events_of, max_frames, event_counts, allowed, counts_of, chances_answer}
use Rattle.chance.specs.Marks.{layers}
use Rattle.chance.specs.Rules.{SequencesAreAll, CountsTotalAllSequences, EventsTakeFrames}
use Rattle.chance.proofs.Sequences.{length-sequences, events-take-frames, few}

pub sequences-are-all : SequencesAreAll
sequences-are-all = length-sequences

pub events-take : EventsTakeFrames
events-take = events-take-frames

total-counts : (c : FallConfig) (choices : List ℕ) (spacing n : ℕ) → n ≤ max_frames → total (counts_of c choices spacing n) ≡ length choices ^ n
total-counts c choices spacing n h =
    partition (events_of (new_detector c) 0 spacing) event_counts (sequences choices n)
    (all_of (λ (s : List ℕ). events_of (new_detector c) 0 spacing s < event_counts) (λ (s : List ℕ). events_of (new_detector c) 0 spacing s < layers) (λ s f. omega arith) (sequences choices n) (few choices n h c 0 spacing))
    ∙ length-sequences choices n

few-frames : (choices spacing n : ℕ) → allowed choices spacing n ≡ true → n ≤ max_frames
unfolding allowed
few-frames choices spacing n e =
    let some = (and_parts _ _ e).1 in let frames = (and_parts _ _ some).1 in leb-true n max_frames (and_parts _ _ frames).0

pub counts-total-all : CountsTotalAllSequences
unfolding chances_answer
counts-total-all c choices spacing n e = (counts_of c choices spacing n, (rw e refl, total-counts c choices spacing n (few-frames (length choices) spacing n e)))
