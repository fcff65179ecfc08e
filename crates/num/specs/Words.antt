-- Little-endian words: the lowest byte first (docs/SPEC.md, "The sample"). Assumes nothing.
use Rattle.std.specs.Prelude.{ℕ, zero, suc, ◌+◌, ◌*◌, ◌/◌, ◌%◌, List, [], ◌∷◌, ◌++◌, take, drop}

-- the number that these bytes hold
unfoldable pub le : List ℕ → ℕ
le [] = 0
le (b ∷ bs) = b + 256 * le bs

-- the number in the k bytes from i on
abbrev pub le_at : List ℕ → ℕ → ℕ → ℕ
le_at bytes i k = le (take k (drop i bytes))

-- the k low bytes of n
abbrev pub le_bytes : ℕ → ℕ → List ℕ
le_bytes zero n = []
le_bytes (suc k) n = n % 256 ∷ le_bytes k (n / 256)

-- the bytes with the k low bytes of n from i on
abbrev pub put_le : ℕ → List ℕ → ℕ → ℕ → List ℕ
put_le k bytes i n = take i bytes ++ (le_bytes k n ++ drop (i + k) bytes)

-- the first n words of k bytes each
unfoldable pub words_in : (k n : ℕ) → List ℕ → List ℕ
words_in k zero bytes = []
words_in k (suc n) bytes = le (take k bytes) ∷ words_in k n (drop k bytes)

-- the bytes of words of k bytes each
unfoldable pub le_all : ℕ → List ℕ → List ℕ
le_all k [] = []
le_all k (x ∷ xs) = le_bytes k x ++ le_all k xs
