-- `room_memory::arrays::numbers_at` meets its contract. Assumes nothing.
use mathlib.Core.List.{map}
use lib.ListN.{drop}
use Rattle.num.specs.Words.{words_in}
use Rattle.num.proofs.Arrays.{Copying}
use Rattle.window.specs.Window.{columns}
use Rattle.room_memory.proofs.arrays.numbers_at.Given as goal

abbrev pub invariant-loop-i : goal.invariant-loop-i
invariant-loop-i g l = Copying columns (map g.W.Word.number (words_in g.W.Word.SIZE columns (drop l.at l.m))) l.x-items l.i
