-- `room_memory::arrays::put_numbers` meets its contract. Assumes nothing.
use mathlib.Core.List.{map}
use Rattle.num.proofs.Arrays.{Writing}
use Rattle.room_memory.proofs.arrays.put_numbers.Given as goal

abbrev pub invariant-loop-i : goal.invariant-loop-i
invariant-loop-i g l = Writing g.W.Word.SIZE l.at (map g.W.Word.value l.xs) l.initial.m l.m l.i
