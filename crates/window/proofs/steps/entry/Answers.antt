-- `window::steps::entry` meets its contract. Assumes nothing.
use mathlib.Core.Path.{◌∙◌}
use Rattle.window.proofs.Words.{le-words}
use Rattle.window.proofs.steps.entry.Goals as goal

pub returns : goal.returns
returns c = c.word_at.ensures ∙ le-words c.args.rows.now c.args.at c.requires
