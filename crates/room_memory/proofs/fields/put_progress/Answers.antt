-- `room_memory::fields::put_progress` meets its contract. Assumes nothing.
use Prim.Native.Nat.{◌+◌, ◌%◌}
use mathlib.Core.Path.{refl, ◌∙◌}
use mathlib.Core.List.{append_assoc}
use native.Mathlib.Omega.{arith}
use Rattle.num.proofs.Parts.{front-start}
use Rattle.room_memory.proofs.Writing.{byte-next, short-next, fields}
use Rattle.room_memory.proofs.fields.put_progress.Goals as goal

pub returns : goal.returns
returns c =
    let s = c.args.s in let at = c.args.at in let room = c.requires in let f₀ = front-start at c.args.m.now (omega (arith, room)) in
    let f₁ = byte-next f₀ at refl (s.count % 256) (omega (arith, room)) in
    let f₂ = short-next f₁ (at + 1) refl s.filled _ c.put_word.ensures in
    let f₃ = short-next f₂ (at + 3) (omega arith) s.next _ c.put_word-2.ensures in
    let f₄ = short-next f₃ (at + 5) (omega arith) s.acc_n _ c.put_word-3.ensures in
    let f₅ = short-next f₄ (at + 7) (omega arith) s.since_update _ c.put_word-4.ensures in
    fields f₅ (at + 9) (omega arith) ∙ simp append_assoc
