-- Bytes taken in twos. Assumes nothing.
use mathlib.Core.Path.{◌≡◌, refl, ap, ◌∙◌}
use mathlib.Core.List.{List, []}
use Prim.Native.Nat.{ℕ, zero, suc, ◌+◌, ◌*◌, ◌<◌}
use native.Mathlib.Omega.{arith}
use lib.ListN.{length, get_or, take, drop, length-take}
use lib.Seq.{drop-drop, get_or-take, get_or-drop}
use Rattle.std.specs.Simd.{first_chunks}

length-pairs : (n : ℕ) (s : List ℕ) → length (first_chunks 2 n s) ≡ n
length-pairs zero s = refl
length-pairs (suc n) s = ap suc (length-pairs n (drop 2 s))

pair-is : (n : ℕ) (s : List ℕ) (k : ℕ) → k < n → get_or (first_chunks 2 n s) k [] ≡ take 2 (drop (2 * k) s)
pair-is zero s k h = absurd (omega arith)
pair-is (suc n) s zero h = refl
pair-is (suc n) s (suc k) h =
    let next : 2 + 2 * k ≡ 2 * suc k = omega arith in
    pair-is n (drop 2 s) k (omega arith) ∙ rw (drop-drop (2 * k) 2 s, next)

-- the two bytes of the k-th of the first e twos
pub pair-at : (e n : ℕ) (s : List ℕ) (k : ℕ) → k < length (take e (first_chunks 2 n s)) → let p = get_or (take e (first_chunks 2 n s)) k [] in
    (get_or p 0 0 ≡ get_or s (2 * k) 0) × (get_or p 1 0 ≡ get_or s (2 * k + 1) 0)
pair-at e n s k h =
    let ps = first_chunks 2 n s in let d = drop (2 * k) s in
    let is : get_or (take e ps) k [] ≡ take 2 d = get_or-take e ps k [] (omega (arith, length-take e ps, h)) ∙ pair-is n s k (omega (arith, length-take e ps, length-pairs n s, h)) in
    let first : 2 * k + 0 ≡ 2 * k = omega arith in (
      ap (λ (p : List ℕ). get_or p 0 0) is ∙ get_or-take 2 d 0 0 (omega arith) ∙ get_or-drop (2 * k) s 0 0 ∙ ap (λ (i : ℕ). get_or s i 0) first,
      ap (λ (p : List ℕ). get_or p 1 0) is ∙ get_or-take 2 d 1 0 (omega arith) ∙ get_or-drop (2 * k) s 1 0,
    )
