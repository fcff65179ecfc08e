-- `window::steps::put_entry` meets its contract. Assumes nothing.
use mathlib.Core.Path.{◌∙◌}
use Rattle.window.proofs.Words.{put-words}
use Rattle.window.proofs.steps.put_entry.Goals as goal

pub returns : goal.returns
returns c = c.put_word.ensures ∙ put-words c.args.rows.now c.args.at c.args.v c.ranges.v.fits c.requires
