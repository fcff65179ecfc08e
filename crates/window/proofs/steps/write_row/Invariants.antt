-- `window::steps::write_row` meets its contract: the loop of `Write.Stored`. Assumes nothing.
use lib.ListN.{length}
use Rattle.window.specs.Window.{columns}
use Rattle.window.proofs.Write.{Stored}
use Rattle.window.proofs.steps.write_row.Given as goal

abbrev pub invariant-loop-sc : goal.invariant-loop-sc
invariant-loop-sc l = Stored l.w columns l.slot (length l.new) l.new l.initial.rows l.rows l.sc
