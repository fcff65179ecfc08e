-- `window::steps::write_row` meets its contract: the loop of `Write.Stored`. Assumes nothing.
use native.Mathlib.Nat.{le_refl}
use Prim.Native.Nat.{ℕ}
use lib.ListN.{length}
use Rattle.window.specs.Window.{columns}
use Rattle.window.proofs.Write.{store-turn}
use Rattle.window.proofs.steps.write_row.Goals as goal

pub loop-sc-preserved : goal.loop-sc-preserved
loop-sc-preserved c =
    let n : ℕ = length c.args.new.now in
    store-turn c.args.w columns c.args.slot n c.args.new.now c.args.rows.now c.requires.1 c.requires.2 c.requires.3 (le_refl n) c.loop-sc.rows c.loop-sc.sc c.loop-sc.invariant c.loop-sc-test.true
    c.put_entry.new.rows c.put_entry.ensures
