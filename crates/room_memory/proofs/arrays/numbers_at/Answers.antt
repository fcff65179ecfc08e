-- `room_memory::arrays::numbers_at` meets its contract. Assumes nothing.
use mathlib.Core.Path.{◌≡◌, sym, ap, ◌∙◌}
use mathlib.Core.List.{List, map}
use Prim.Native.Nat.{ℕ, ◌+◌, ◌*◌}
use lib.ListN.{length, drop, length-map, length-replicate, get_or-map}
use Rattle.num.specs.Words.{words_in, le_at}
use Rattle.num.proofs.Arrays.{none-copied, copied, all-copied, length-words_in, word_in}
use Rattle.window.specs.Window.{columns}
use Rattle.room_memory.proofs.arrays.numbers_at.Goals as goal

-- as many as columns
long : {A : Type 0} (number : ℕ → A) (k : ℕ) (m : List ℕ) (at : ℕ) → length (map number (words_in k columns (drop at m))) ≡ columns
long number k m at = length-map (words_in k columns (drop at m)) number ∙ length-words_in k columns (drop at m)

pub loop-i-init : goal.loop-i-init
loop-i-init g c =
    none-copied (g.W.Word.number 0) (long g.W.Word.number g.W.Word.SIZE c.args.m.now c.args.at) _ (length-replicate columns c.default-out.result)

pub loop-i-preserved : goal.loop-i-preserved
loop-i-preserved g c =
    let k = g.W.Word.SIZE in
    copied (g.W.Word.number 0) (long g.W.Word.number k c.args.m.now c.args.at) c.loop-i.invariant c.loop-i-test.true _
    (c.word_at.ensures ∙ ap (λ (size : ℕ). g.W.Word.number (le_at c.args.m.now (c.args.at + size * c.loop-i.i) k)) c.SIZE.ensures ∙ ap g.W.Word.number (word_in k columns c.args.at c.loop-i.i c.args.m.now c.loop-i-test.true)
    ∙ sym (get_or-map g.W.Word.number (words_in k columns (drop c.args.at c.args.m.now)) c.loop-i.i 0))

pub returns : goal.returns
returns g c = all-copied (g.W.Word.number 0) (long g.W.Word.number g.W.Word.SIZE c.args.m.now c.args.at) c.loop-i.invariant c.loop-i-test.false
