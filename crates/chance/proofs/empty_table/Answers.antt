-- `chance::empty_table` meets its contract.
use Rattle.std.proofs.Common.{rules}
use Rattle.num.proofs.Made.{made}
use Rattle.chance.specs.Marks.{entries, empty_entry, empty_table}
use Rattle.chance.proofs.empty_table.Goals as goal

pub returns : goal.returns
unfolding empty_table
returns c = made _ _ entries empty_entry (λ p r q l h. search rules) _ c.from_fn.ensures.items
