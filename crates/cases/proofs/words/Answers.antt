use Rattle.std.proofs.Common.{rules}
use Rattle.cases.specs.Cases.{word_or_0}
use Rattle.num.proofs.Made.{made}
use Rattle.cases.proofs.words.Goals as goal

pub returns : goal.returns
returns g c = made _ _ g.row.N (word_or_0 c.args.bytes.now) (λ i r q l k. search rules) _ c.from_fn.ensures.items
