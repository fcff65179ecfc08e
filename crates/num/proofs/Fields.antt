-- Fields that stand in memory one behind the other: each is read where it stands, and what was read is written as it stood. A field is a byte, a word, or
-- n words of k bytes, unsigned or signed. Assumes nothing.
--
--     here, behind                               what stands at a place, and what stands behind it
--     words_long, bits-long                      how many bytes an array is
--     words-here, signed-here                    it is read where it stands
--     byte-same, word_same, words_same, signed_same    what was read from a on, and then what stands behind it, is what stood from a on
use Prim.Native.Nat.{ℕ, zero, suc, ◌+◌, ◌*◌, ◌^◌, ◌≤◌, ◌<◌}
use mathlib.Core.Path.{◌≡◌, refl, sym, ap, ◌∙◌}
use mathlib.Core.List.{List, [], ◌∷◌, ◌++◌, map, append_assoc}
use native.Mathlib.Nat.{mul-suc, mul-zero}
use native.Mathlib.Numerals.{add-one}
use native.Mathlib.Omega.{arith}
use lib.IntN.{ℤ, pos, negsuc}
use lib.ListN.{length, get_or, take, drop, length-map, length-drop, take-append-drop}
use lib.Seq.{drop-cons, drop-drop, drop_at, length-take-le}
use mir.Syntax.{w32}
use mir.Val.{SFits}
use Rattle.num.specs.Words.{le, le_at, le_bytes, words_in, le_all}
use Rattle.num.specs.Wrap.{signed32, bits32}
use Rattle.num.proofs.Words.{le_bytes-le_at, byte-part, byte-drop, le-bound}
use Rattle.num.proofs.Arrays.{length-le_all, words_back}
use Rattle.num.proofs.Byte.{signed_word, word-signed}

-- x stands at a in m: what is read there is what is read of x behind anything
pub here : {A : Type 0} (read : List ℕ → ℕ → A) (m x : List ℕ) (a : ℕ) (v : A) → a ≤ length m → drop a m ≡ x → ((q : List ℕ) → read (q ++ x) (length q) ≡ v) → read m a ≡ v
here read m x a v h e f =
    let l : length (take a m) ≡ a = length-take-le a m h in
    let w : m ≡ take a m ++ x = sym (take-append-drop a m) ∙ ap (λ (y : List ℕ). take a m ++ y) e in
    ap (λ (y : List ℕ). read y a) w ∙ ap (λ (n : ℕ). read (take a m ++ x) n) (sym l) ∙ f (take a m)

-- t stands at a, and rest behind it
pub behind : (a n : ℕ) (m t rest : List ℕ) → length t ≡ n → drop a m ≡ t ++ rest → drop (a + n) m ≡ rest
behind a n m t rest l e = sym (drop-drop n a m) ∙ rw e (drop_at t rest n l)

-- ---- signed numbers and their bits
bits_below : (z : ℤ) → bits32 z < 4294967296
bits_below (pos n) = omega arith
bits_below (negsuc n) = omega arith

bits_range : (zs : List ℤ) (j : ℕ) → get_or (map bits32 zs) j 0 < 256 ^ 4
bits_range [] j = omega arith
bits_range (z ∷ zs) zero = bits_below z
bits_range (z ∷ zs) (suc j) = bits_range zs j

signed-bits : (zs : List ℤ) → ((j : ℕ) → SFits w32 (get_or zs j (pos 0))) → map signed32 (map bits32 zs) ≡ zs
signed-bits [] f = refl
signed-bits (z ∷ zs) f =
    let e : signed32 (bits32 z) ≡ z = signed_word z (f 0) in
    let i : map signed32 (map bits32 zs) ≡ zs = signed-bits zs (λ j. f (suc j)) in
    rw (e, i)

bits-signed : (n : ℕ) (l : List ℕ) → ((i : ℕ) → get_or l i 0 < 256) → 4 * n ≤ length l → map bits32 (map signed32 (words_in 4 n l)) ≡ words_in 4 n l
unfolding words_in
bits-signed zero l f h = refl
bits-signed (suc n) l f h =
    let long : length (take 4 l) ≡ 4 = length-take-le 4 l (omega arith) in
    let b : le (take 4 l) < 256 ^ length (take 4 l) = le-bound (take 4 l) (byte-part l f 0 4) in
    let b' : le (take 4 l) < 4294967296 = rw long at b in
    let e : bits32 (signed32 (le (take 4 l))) ≡ le (take 4 l) = word-signed (le (take 4 l)) b' in
    let i : map bits32 (map signed32 (words_in 4 n (drop 4 l))) ≡ words_in 4 n (drop 4 l) = bits-signed n (drop 4 l) (byte-drop l f 4) (omega (arith, length-drop 4 l)) in
    rw (e, i)

-- ---- n words of k bytes: how long they are, and how they are read where they stand
pub words_long : (k n : ℕ) (xs : List ℕ) → length xs ≡ n → length (le_all k xs) ≡ k * n
words_long k n xs h = length-le_all k xs ∙ rw h

pub bits-long : (n : ℕ) (zs : List ℤ) → length zs ≡ n → length (le_all 4 (map bits32 zs)) ≡ 4 * n
bits-long n zs h = words_long 4 n (map bits32 zs) (length-map zs bits32 ∙ h)

pub words-here : (k n a : ℕ) (m xs rest : List ℕ) → length xs ≡ n → ((j : ℕ) → get_or xs j 0 < 256 ^ k) → drop a m ≡ le_all k xs ++ rest → words_in k n (drop a m) ≡ xs
words-here k n a m xs rest l f e = ap (λ (i : ℕ). words_in k i (drop a m)) (sym l) ∙ rw e (words_back k xs rest f)

pub signed-here : (n a : ℕ) (m : List ℕ) (zs : List ℤ) (rest : List ℕ) → length zs ≡ n → ((j : ℕ) → SFits w32 (get_or zs j (pos 0))) → drop a m ≡ le_all 4 (map bits32 zs) ++ rest
    → map signed32 (words_in 4 n (drop a m)) ≡ zs
signed-here n a m zs rest l f e = rw (words-here 4 n a m (map bits32 zs) rest (length-map zs bits32 ∙ l) (bits_range zs) e) (signed-bits zs f)

all_words : (k n : ℕ) (l rest : List ℕ) → ((i : ℕ) → get_or l i 0 < 256) → k * n ≤ length l → rest ≡ drop (k * n) l → le_all k (words_in k n l) ++ rest ≡ l
unfolding words_in le_all
all_words k zero l rest f h d = d ∙ rw (mul-zero k)
all_words k (suc n) l rest f h d =
    let s : k * suc n ≡ k * n + k = mul-suc k n in
    let e : k + k * n ≡ k * suc n = omega arith in
    let d' : rest ≡ drop (k * n) (drop k l) = d ∙ ap (λ (j : ℕ). drop j l) (sym e) ∙ sym (drop-drop (k * n) k l) in
    let i : le_all k (words_in k n (drop k l)) ++ rest ≡ drop k l = all_words k n (drop k l) rest (byte-drop l f k) (omega (arith, length-drop k l)) d' in
    append_assoc (le_bytes k (le (take k l))) (le_all k (words_in k n (drop k l))) rest
    ∙ rw i (rw (le_bytes-le_at l f 0 k (omega arith)) (take-append-drop k l))

-- ---- what was read from a on, written again before what stands behind it
module _ (m : List ℕ) (bytes : (i : ℕ) → get_or m i 0 < 256) where
  pub byte-same : (a b x : ℕ) (rest : List ℕ) → b ≡ a + 1 → b ≤ length m → x ≡ get_or m a 0 → rest ≡ drop b m → x ∷ rest ≡ drop a m
  byte-same a b x rest n h e d = rw (e, d, n, add-one a) (sym (drop-cons m a 0 (omega arith)))

  pub word_same : (a b k : ℕ) (rest : List ℕ) → b ≡ a + k → b ≤ length m → rest ≡ drop b m → le_bytes k (le_at m a k) ++ rest ≡ drop a m
  word_same a b k rest n h d = rw (le_bytes-le_at m bytes a k (omega arith), d, n, sym (drop-drop k a m)) (take-append-drop k (drop a m))

  pub words_same : (k n a : ℕ) (rest : List ℕ) → a + k * n ≤ length m → rest ≡ drop (a + k * n) m → le_all k (words_in k n (drop a m)) ++ rest ≡ drop a m
  words_same k n a rest h d = all_words k n (drop a m) rest (byte-drop m bytes a) (omega (arith, length-drop a m)) (d ∙ sym (drop-drop (k * n) a m))

  pub signed_same : (n a : ℕ) (rest : List ℕ) → a + 4 * n ≤ length m → rest ≡ drop (a + 4 * n) m → le_all 4 (map bits32 (map signed32 (words_in 4 n (drop a m)))) ++ rest ≡ drop a m
  signed_same n a rest h d = rw (bits-signed n (drop a m) (byte-drop m bytes a) (omega (arith, length-drop a m))) (words_same 4 n a rest h d)
