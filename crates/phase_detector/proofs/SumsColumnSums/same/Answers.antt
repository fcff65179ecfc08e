-- Sums are equal where those of each column are. Assumes nothing.
use borrow.Author.Rules.{rules}
use lib.IntN.{pos}
use Rattle.std.specs.Cmp.Rules.{signed_items}
use Rattle.window.specs.Window.{columns}
use Rattle.sliding.proofs.Alike.{alike-told}
use Rattle.phase_detector.proofs.SumsColumnSums.same.Goals as goal

pub returns : goal.returns
returns c =
    alike-told (pos 0) columns (search rules) (search rules) (search rules) (search rules) c.eq.ensures
    (signed_items c.args.self.now.cos c.args.other.now.cos) (signed_items c.args.self.now.sin c.args.other.now.sin)
