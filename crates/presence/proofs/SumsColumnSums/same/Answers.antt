-- Sums are equal where those of each column are. Assumes nothing.
use borrow.Author.Rules.{rules}
use lib.Pointwise.{bytes_decides}
use Rattle.window.specs.Window.{columns}
use Rattle.sliding.proofs.Alike.{alike-told}
use Rattle.presence.proofs.SumsColumnSums.same.Goals as goal

pub returns : goal.returns
returns c =
    alike-told 0 columns (search rules) (search rules) (search rules) (search rules) c.eq.ensures
    (bytes_decides c.args.self.now.sum c.args.other.now.sum) (bytes_decides c.args.self.now.sumsq c.args.other.now.sumsq)
