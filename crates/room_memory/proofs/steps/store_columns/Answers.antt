-- `room_memory::steps::store_columns` meets its contract. Assumes nothing.
use mathlib.Core.Path.{◌≡◌, ◌∙◌}
use mathlib.Core.List.{List, map, map-id, append-nil, append_assoc}
use Prim.Native.Nat.{ℕ, ◌*◌}
use native.Mathlib.Omega.{arith}
use borrow.Author.Rules.{rules}
use lib.ListN.{length, length-map, drop_of_length-le}
use Rattle.num.specs.Wrap.{bits32}
use Rattle.num.specs.Words.{le_all}
use Rattle.num.proofs.Fields.{words_long, bits-long}
use Rattle.num.proofs.Parts.{front-start, front-next}
use Rattle.window.specs.Window.{columns}
use Rattle.room_memory.specs.Header.{sum_at, header_len}
use Rattle.room_memory.proofs.steps.store_columns.Goals as goal

-- numbers that are their own words
abbrev plain : List ℕ → List ℕ
plain xs = map (λ (n : ℕ). n) xs

plain-long : (k : ℕ) (xs : List ℕ) → length xs ≡ columns → length (le_all k (plain xs)) ≡ k * columns
plain-long k xs long = words_long k columns (plain xs) (length-map xs (λ (n : ℕ). n) ∙ long)

pub returns : goal.returns
returns c =
    let s = c.args.s in
    let sum-long : length s.presence.sums.sum ≡ columns = search rules in
    let sumsq-long : length s.presence.sums.sumsq ≡ columns = search rules in
    let cos-long : length s.phase.sums.cos ≡ columns = search rules in
    let sin-long : length s.phase.sums.sin ≡ columns = search rules in
    let breathing-long : length s.breathing.acc ≡ columns = search rules in
    let heart-long : length s.heart.acc ≡ columns = search rules in
    let f₀ = front-start sum_at c.args.m.now (omega (arith, c.told-m)) in
    let f₁ = front-next (4 * columns) (le_all 4 (plain s.presence.sums.sum)) _ f₀ (plain-long 4 s.presence.sums.sum sum-long) c.put_numbers.ensures in
    let f₂ = front-next (8 * columns) (le_all 8 (plain s.presence.sums.sumsq)) _ f₁ (plain-long 8 s.presence.sums.sumsq sumsq-long) c.put_numbers-2.ensures in
    let f₃ = front-next (4 * columns) (le_all 4 (map bits32 s.phase.sums.cos)) _ f₂ (bits-long columns s.phase.sums.cos cos-long) c.put_numbers-3.ensures in
    let f₄ = front-next (4 * columns) (le_all 4 (map bits32 s.phase.sums.sin)) _ f₃ (bits-long columns s.phase.sums.sin sin-long) c.put_numbers-4.ensures in
    let f₅ = front-next (4 * columns) (le_all 4 (plain s.breathing.acc)) _ f₄ (plain-long 4 s.breathing.acc breathing-long) c.put_numbers-5.ensures in
    let f₆ = front-next (4 * columns) (le_all 4 (plain s.heart.acc)) _ f₅ (plain-long 4 s.heart.acc heart-long) c.put_numbers-6.ensures in
    f₆.whole ∙ rw (drop_of_length-le c.args.m.now {i = header_len} (omega (arith, c.told-m)), append-nil, map-id s.presence.sums.sum, map-id s.presence.sums.sumsq, map-id s.breathing.acc, map-id s.heart.acc) (simp append_assoc)
