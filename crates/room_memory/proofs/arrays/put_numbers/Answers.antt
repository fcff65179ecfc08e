-- `room_memory::arrays::put_numbers` meets its contract. Assumes nothing.
use mathlib.Core.Path.{◌≡◌, sym, subst, ◌∙◌}
use mathlib.Core.List.{List, map}
use Prim.Native.Nat.{ℕ, ◌+◌, ◌*◌, ◌≤◌, ◌<◌}
use native.Mathlib.Omega.{arith}
use lib.ListN.{length, get_or, length-map}
use Rattle.std.proofs.lemmas.List.{get_or-map}
use Rattle.num.specs.Words.{put_le}
use Rattle.num.proofs.Arrays.{Writing, none_written, written, all-written}
use Rattle.window.specs.Window.{columns}
use Rattle.room_memory.proofs.arrays.put_numbers.Goals as goal

-- the words of the numbers have their place
module _ {A : Type 0} (word : A → ℕ) (k at : ℕ) (xs : List A) (m : List ℕ) (long : length xs ≡ columns) (room : at + k * columns ≤ length m) where
  words-long : length (map word xs) ≡ columns
  words-long = length-map xs word ∙ long

  placed : at + k * length (map word xs) ≤ length m
  placed = rw words-long room

  more : (m' m'' : List ℕ) (i : ℕ) (size : ℕ) (x : A) → Writing k at (map word xs) m m' i → i < columns → size ≡ k → x ≡ get_or xs i x
      → m'' ≡ put_le k m' (at + size * i) (word (get_or xs i x)) → Writing k at (map word xs) m m'' (i + 1)
  more m' m'' i size x w h es ex e =
      let read : get_or (map word xs) i 0 ≡ word (get_or xs i x) = get_or-map word xs i x 0 (omega (arith, long)) in
      subst (λ (l : List ℕ). Writing k at (map word xs) m l (i + 1)) (sym (e ∙ rw (es, sym read)))
      (written k at (map word xs) m placed w (omega (arith, words-long)))

pub loop-i-init : goal.loop-i-init
loop-i-init g c =
    none_written g.W.Word.SIZE c.args.at (map g.W.Word.value c.args.xs.now) c.args.m.now (placed g.W.Word.value g.W.Word.SIZE c.args.at c.args.xs.now c.args.m.now c.told-xs c.requires)

pub loop-i-preserved : goal.loop-i-preserved
loop-i-preserved g c =
    more g.W.Word.value g.W.Word.SIZE c.args.at c.args.xs.now c.args.m.now c.told-xs c.requires c.loop-i.m c.put_word.new.s c.loop-i.i c.SIZE.result c.index-xs-i.result c.loop-i.invariant c.loop-i-test.true c.SIZE.ensures c.index-xs-i.is c.put_word.ensures

pub returns : goal.returns
returns g c =
    all-written g.W.Word.SIZE c.args.at (map g.W.Word.value c.args.xs.now) c.args.m.now (placed g.W.Word.value g.W.Word.SIZE c.args.at c.args.xs.now c.args.m.now c.told-xs c.requires) c.loop-i.invariant
    (omega (arith, words-long g.W.Word.value g.W.Word.SIZE c.args.at c.args.xs.now c.args.m.now c.told-xs c.requires, c.loop-i-test.false))
    ∙ rw (words-long g.W.Word.value g.W.Word.SIZE c.args.at c.args.xs.now c.args.m.now c.told-xs c.requires)
