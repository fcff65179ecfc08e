-- What programs read of a case, and the sum that they print of a list. Assumes nothing.
use Rattle.std.specs.Prelude.{ℕ, suc, List, [], ◌∷◌, cond, ltb, ◌+◌, ◌*◌, ◌/◌, ◌%◌, ◌^◌, length}
use Rattle.num.specs.Lists.{build}
use Rattle.num.specs.Words.{le_at}

-- the word of 16 bits at a place, low byte first; there is none behind the last two bytes
abbrev pub word_or_0 : List ℕ → (place : ℕ) → ℕ
word_or_0 bytes place = cond (ltb place (length bytes / 2)) (le_at bytes (2 * place) 2) 0

-- the first n words
abbrev pub words_in_front : (n : ℕ) → List ℕ → List ℕ
words_in_front n bytes = build n (word_or_0 bytes)

-- each number times its place, the first one's place being p
unfoldable pub weighted : (p : ℕ) → List ℕ → ℕ
weighted p [] = 0
weighted p (x ∷ xs) = p * x + weighted (suc p) xs

-- places counted from 1, modulo 2^32
abbrev pub check_sum : List ℕ → ℕ
check_sum numbers = weighted 1 numbers % 2 ^ 32
