-- `chance::resting_counts` meets its contract.
use Prim.Native.Nat.{ℕ}
use Rattle.std.proofs.Common.{rules}
use Rattle.num.proofs.Made.{made}
use Rattle.chance.specs.Chance.{event_counts}
use Rattle.chance.specs.Marks.{ways_at, resting_place, resting_counts}
use Rattle.chance.proofs.resting_counts.Goals as goal

pub returns : goal.returns
unfolding resting_counts
returns c = made _ _ event_counts (λ (k : ℕ). ways_at c.args.table.now k resting_place) (λ k r q l h. search rules) _ c.from_fn.ensures.items
