-- `chance::Front::table` meets its contract.
use Prim.Native.Nat.{ℕ, ◌/◌, ◌%◌}
use Rattle.std.proofs.Common.{rules}
use Rattle.num.proofs.Made.{made}
use Rattle.chance.specs.Marks.{entries, places, mark_at, entry_of, table_of}
use Rattle.chance.proofs.Front.table.Goals as goal

pub returns : goal.returns
unfolding table_of
returns c =
    let f = c.args.self.now in
    made _ _ entries (λ (p : ℕ). entry_of f.question.config f.question.spacing f.frame f.question.choices.now f.behind.now (p / places) (mark_at (p % places))) (λ p r q l h. search rules) _ c.from_fn.ensures.items
