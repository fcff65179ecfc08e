-- `num::steps::put` meets its contract. Assumes nothing.
use Prim.Native.Nat.{ℕ, suc, ◌<◌, ◌+◌}
use mathlib.Core.Path.{◌≡◌, ◌∙◌}
use mathlib.Core.List.{List, ◌++◌}
use native.Mathlib.Nat.{le_of_lt}
use native.Mathlib.Numerals.{add-one}
use native.Mathlib.Omega.{arith}
use lib.ListN.{length, take, drop, set, get_or, length-set}
use lib.Seq.{take-length, take-suc, drop-cons, set_at, append_snoc, length-take-le}
use Rattle.num.proofs.steps.put.Goals as goal

-- a turn's store takes the copy of i bytes to the copy of one more
more : (s d : List ℕ) (i : ℕ) → i < length s → i < length d → set (take i s ++ drop i d) i (get_or s i 0) ≡ take (i + 1) s ++ drop (i + 1) d
more s d i hs hd =
    rw (drop-cons d i 0, set_at (take i s) (get_or d i 0) (drop (suc i) d) (get_or s i 0) i (length-take-le i s (le_of_lt hs)), add-one, take-suc s i 0, append_snoc)

pub loop-i-preserved : goal.loop-i-preserved
loop-i-preserved c =
    let src = c.args.src.now in let dst = c.args.dst.now in let below : c.loop-i.i < length dst = omega arith in
    (omega arith, (rw (c.loop-i.invariant.1.0, more src dst c.loop-i.i c.loop-i-test.true below), simp length-set (omega arith)))

pub returns : goal.returns
returns c =
    let all : c.loop-i.i ≡ length c.args.src.now = omega arith in
    c.loop-i.invariant.1.0 ∙ rw (all, take-length)
