-- `room_memory::fields::put_baseline` meets its contract. Assumes nothing.
use Prim.Native.Nat.{◌+◌, ◌%◌}
use mathlib.Core.Path.{refl, ◌∙◌}
use mathlib.Core.List.{append_assoc}
use native.Mathlib.Omega.{arith}
use Rattle.num.proofs.Parts.{front-start}
use Rattle.room_memory.proofs.Writing.{word-next, short-next, fields}
use Rattle.room_memory.proofs.fields.put_baseline.Goals as goal

pub returns : goal.returns
returns c =
    let b = c.args.b in let at = c.args.at in let f₀ = front-start at c.args.m.now (omega (arith, c.requires)) in
    let f₁ = word-next f₀ at refl 8 b.sum _ c.put_word.ensures in
    let f₂ = short-next f₁ (at + 8) refl b.frames _ c.put_word-2.ensures in
    fields f₂ (at + 10) (omega arith) ∙ simp append_assoc
