-- The rows fix the memory: two memories of one length with the same rows are the same, byte for byte. Assumes nothing.
use mathlib.Core.Path.{◌≡◌, refl, sym, ◌∙◌}
use mathlib.Core.List.{List, [], ◌∷◌}
use Prim.Native.Nat.{ℕ, zero, suc, ◌+◌, ◌*◌, ◌<◌}
use native.Mathlib.Nat.{suc-mul}
use native.Mathlib.Omega.{arith}
use lib.ListN.{length, take, drop, get_or, take-append-drop, length-drop}
use Rattle.window.specs.Words.{words}
use Rattle.window.specs.Window.{cut, ring_rows}
use Rattle.window.proofs.Words.{length-words}

cut-fixed : (w c : ℕ) (es es' : List ℕ) → length es ≡ w * c → length es' ≡ w * c → cut w c es ≡ cut w c es' → es ≡ es'
unfolding cut
cut-fixed zero c [] [] l l' e = refl
cut-fixed zero c [] (x ∷ es') l l' e = absurd (omega arith)
cut-fixed zero c (x ∷ es) es' l l' e = absurd (omega arith)
cut-fixed (suc w) c es es' l l' e =
    let front : take c es ≡ take c es' = cc in
    let back : cut w c (drop c es) ≡ cut w c (drop c es') = cc in
    let rest : drop c es ≡ drop c es' = cut-fixed w c (drop c es) (drop c es') (omega (arith, suc-mul w c, length-drop c es)) (omega (arith, suc-mul w c, length-drop c es')) back in
    sym (take-append-drop c es) ∙ cc (front, rest) ∙ take-append-drop c es'

words-fixed : (n : ℕ) (xs ys : List ℕ) → length xs ≡ 2 * n → length ys ≡ 2 * n → ((i : ℕ) → get_or xs i 0 < 256) → ((i : ℕ) → get_or ys i 0 < 256) → words xs ≡ words ys → xs ≡ ys
unfolding words
words-fixed zero [] [] lx ly hx hy e = refl
words-fixed zero [] (y ∷ ys) lx ly hx hy e = absurd (omega arith)
words-fixed zero (x ∷ xs) ys lx ly hx hy e = absurd (omega arith)
words-fixed (suc n) [] ys lx ly hx hy e = absurd (omega arith)
words-fixed (suc n) (x ∷ []) ys lx ly hx hy e = absurd (omega arith)
words-fixed (suc n) (lo ∷ hi ∷ xs) [] lx ly hx hy e = absurd (omega arith)
words-fixed (suc n) (lo ∷ hi ∷ xs) (y ∷ []) lx ly hx hy e = absurd (omega arith)
words-fixed (suc n) (lo ∷ hi ∷ xs) (lo' ∷ hi' ∷ ys) lx ly hx hy e =
    let word : lo + 256 * hi ≡ lo' + 256 * hi' = cc in
    let others : words xs ≡ words ys = cc in
    let low : lo ≡ lo' = omega (arith, hx 0, hy 0) in
    let high : hi ≡ hi' = omega (arith, hx 0, hy 0) in
    let rest : xs ≡ ys = words-fixed n xs ys (omega arith) (omega arith) (λ i. hx (suc (suc i))) (λ i. hy (suc (suc i))) others in
    cc (low, high, rest)

pub rows-fixed : (w c : ℕ) (bytes bytes' : List ℕ) → length bytes ≡ 2 * (w * c) → length bytes' ≡ 2 * (w * c) → ((i : ℕ) → get_or bytes i 0 < 256) → ((i : ℕ) → get_or bytes' i 0 < 256)
    → ring_rows w c bytes ≡ ring_rows w c bytes' → bytes ≡ bytes'
rows-fixed w c bytes bytes' l l' h h' e =
    words-fixed (w * c) bytes bytes' l l' h h'
    (cut-fixed w c (words bytes) (words bytes') (length-words (w * c) bytes l) (length-words (w * c) bytes' l') e)
