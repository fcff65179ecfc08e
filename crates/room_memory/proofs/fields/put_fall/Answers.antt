-- `room_memory::fields::put_fall` meets its contract. Assumes nothing.
use Prim.Native.Nat.{◌+◌, ◌%◌}
use mathlib.Core.Path.{refl, ◌∙◌}
use mathlib.Core.List.{append_assoc}
use native.Mathlib.Omega.{arith}
use Rattle.num.proofs.Parts.{front-start}
use Rattle.room_memory.proofs.Writing.{byte-next, word-next, fields}
use Rattle.room_memory.proofs.fields.put_fall.Goals as goal

pub returns : goal.returns
returns c =
    let w = c.args.w in let at = c.args.at in let room = c.requires in let f₀ = front-start at c.args.m.now (omega (arith, room)) in
    let f₁ = byte-next f₀ at refl w.tag (omega (arith, room)) in
    let f₂ = word-next f₁ (at + 1) refl 2 w.peak _ c.put_word.ensures in
    let f₃ = word-next f₂ (at + 3) (omega arith) 8 w.a _ c.put_word-2.ensures in
    let f₄ = word-next f₃ (at + 11) (omega arith) 8 w.b _ c.put_word-3.ensures in
    fields f₄ (at + 19) (omega arith) ∙ simp append_assoc
