-- Words of k bytes one after the other: what is read is what was written, one word more or the next, for any k. Assumes nothing.
use Prim.Native.Nat.{ℕ, zero, suc, ◌+◌, ◌*◌, ◌^◌, ◌≤◌, ◌<◌}
use mathlib.Core.Path.{◌≡◌, refl, sym, ap, ◌∙◌}
use mathlib.Core.List.{List, [], ◌∷◌, ◌++◌, append-nil, append_assoc}
use native.Mathlib.Nat.{mul-suc, mul-zero, add-zero, mul-le-mul_left}
use native.Mathlib.Numerals.{add-one}
use native.Mathlib.Omega.{arith}
use lib.ListN.{length, get_or, take, drop, set, length-append, length-set, take-append-drop}
use lib.Seq.{take_at, drop_at, drop-drop, take-suc, take_all, take-length, take-suc-set, length-take-le}
use Rattle.num.specs.Words.{le, le_at, le_bytes, put_le, words_in, le_all}
use Rattle.num.proofs.Words.{length-le_bytes, le-le_bytes}

pub length-words_in : (k n : ℕ) (bytes : List ℕ) → length (words_in k n bytes) ≡ n
unfolding words_in
length-words_in k zero bytes = refl
length-words_in k (suc n) bytes = ap suc (length-words_in k n (drop k bytes))

pub length-le_all : (k : ℕ) (xs : List ℕ) → length (le_all k xs) ≡ k * length xs
unfolding le_all
length-le_all k [] = sym (mul-zero k)
length-le_all k (x ∷ xs) =
    let e = length-le_all k xs in let l = length-le_bytes k x in let m = mul-suc k (length xs) in
    omega (arith, length-append (le_bytes k x) (le_all k xs))

-- the word at place j
pub word_at : (k n : ℕ) (bytes : List ℕ) (j : ℕ) → j < n → get_or (words_in k n bytes) j 0 ≡ le (take k (drop (k * j) bytes))
unfolding words_in
word_at k zero bytes j h = absurd (omega arith)
word_at k (suc n) bytes zero h = rw (mul-zero k)
word_at k (suc n) bytes (suc j) h = word_at k n (drop k bytes) j (omega arith) ∙ rw (drop-drop, mul-suc) (let e : k + k * j ≡ k * j + k = omega arith in rw e)

-- the same of the words from a on
pub word_in : (k n a j : ℕ) (m : List ℕ) → j < n → le_at m (a + k * j) k ≡ get_or (words_in k n (drop a m)) j 0
word_in k n a j m h = sym (word_at k n (drop a m) j h ∙ rw (drop-drop))

-- what is written is read
pub words_back : (k : ℕ) (xs rest : List ℕ) → ((j : ℕ) → get_or xs j 0 < 256 ^ k) → words_in k (length xs) (le_all k xs ++ rest) ≡ xs
unfolding words_in le_all
words_back k [] rest f = refl
words_back k (x ∷ xs) rest f =
    let w : (le_bytes k x ++ le_all k xs) ++ rest ≡ le_bytes k x ++ (le_all k xs ++ rest) = append_assoc (le_bytes k x) (le_all k xs) rest in
    rw (w, take_at (le_bytes k x) (le_all k xs ++ rest) k (length-le_bytes k x), drop_at (le_bytes k x) (le_all k xs ++ rest) k (length-le_bytes k x), le-le_bytes k x (f 0), words_back k xs rest (λ j. f (suc j)))

-- one word more
le_all-append : (k : ℕ) (xs ys : List ℕ) → le_all k (xs ++ ys) ≡ le_all k xs ++ le_all k ys
unfolding le_all
le_all-append k [] ys = refl
le_all-append k (x ∷ xs) ys = rw (le_all-append k xs ys) (sym (append_assoc (le_bytes k x) (le_all k xs) (le_all k ys)))

pub le_all-more : (k : ℕ) (xs : List ℕ) (j : ℕ) → j < length xs → le_all k (take (j + 1) xs) ≡ le_all k (take j xs) ++ le_bytes k (get_or xs j 0)
unfolding le_all
le_all-more k xs j h =
    rw (add-one j, take-suc xs j 0 h) (le_all-append k (take j xs) (get_or xs j 0 ∷ []) ∙ ap (λ (l : List ℕ). le_all k (take j xs) ++ l) (append-nil (le_bytes k (get_or xs j 0))))

-- A loop that copies a list of n elements into an array: i are done
pub record Copying {A : Type 0} (n : ℕ) (xs out : List A) (i : ℕ) : Type 0 where
  pub within : i ≤ n
  pub long : length out ≡ n
  pub same : take i out ≡ take i xs

module _ {A : Type 0} (d : A) {n : ℕ} {xs : List A} (all : length xs ≡ n) where
  pub none-copied : (out : List A) → length out ≡ n → Copying n xs out 0
  none-copied out l = record { within = omega arith; long = l; same = refl }

  pub copied : {out : List A} {i : ℕ} → Copying n xs out i → i < n → (v : A) → v ≡ get_or xs i d → Copying n xs (set out i v) (i + 1)
  copied {out} {i} c h v e =
      let inside : i < length out = omega (arith, c.long) in
      record {
        within = omega arith;
        long = length-set out i v ∙ c.long;
        same = rw (add-one i, take-suc-set out i v inside, take-suc xs i d (omega arith), c.same, e);
      }

  pub all-copied : {out : List A} {i : ℕ} → Copying n xs out i → n ≤ i → out ≡ xs
  all-copied {out} {i} c h =
      sym (take_all i out (omega (arith, c.long))) ∙ c.same ∙ take_all i xs (omega arith)

-- A loop that writes words into memory: m was m₀, and the first i words stand at a
pub record Writing (k a : ℕ) (xs m₀ m : List ℕ) (i : ℕ) : Type 0 where
  pub within : i ≤ length xs
  pub memory : m ≡ take a m₀ ++ (le_all k (take i xs) ++ drop (a + k * i) m₀)

module _ (k a : ℕ) (xs m₀ : List ℕ) (room : a + k * length xs ≤ length m₀) where
  pub none_written : Writing k a xs m₀ m₀ 0
  unfolding le_all
  none_written = record { within = omega arith; memory = sym (rw (mul-zero k, add-zero) (take-append-drop a m₀)) }

  pub written : {m : List ℕ} {i : ℕ} → Writing k a xs m₀ m i → i < length xs → Writing k a xs m₀ (put_le k m (a + k * i) (get_or xs i 0)) (i + 1)
  written {m} {i} w h =
      let n : ℕ = a + k * i in
      let p : List ℕ = take a m₀ ++ le_all k (take i xs) in
      let v : ℕ = get_or xs i 0 in
      let le₁ : k * i ≤ k * length xs = mul-le-mul_left k w.within in
      let long : length p ≡ n =
      length-append (take a m₀) (le_all k (take i xs)) ∙ rw (length-take-le a m₀ (omega arith), length-le_all k (take i xs), length-take-le i xs w.within)
      in
      let whole : m ≡ p ++ drop n m₀ = w.memory ∙ sym (append_assoc (take a m₀) (le_all k (take i xs)) (drop n m₀)) in
      let front : take n m ≡ p = rw whole (take_at p (drop n m₀) n long) in
      let back : drop (n + k) m ≡ drop (n + k) m₀ = sym (drop-drop k n m) ∙ rw (whole, drop_at p (drop n m₀) n long) (drop-drop k n m₀) in
      let next : n + k ≡ a + k * (i + 1) = rw (add-one i, mul-suc) (omega arith) in
      record {
        within = omega arith;
        memory =
            rw (front, back, le_all-more k xs i h)
            (append_assoc (take a m₀) (le_all k (take i xs)) (le_bytes k v ++ drop (n + k) m₀)
            ∙ ap (λ (l : List ℕ). take a m₀ ++ l) (sym (append_assoc (le_all k (take i xs)) (le_bytes k v) (drop (n + k) m₀))
            ∙ ap (λ (j : ℕ). (le_all k (take i xs) ++ le_bytes k v) ++ drop j m₀) next));
      }

  pub all-written : {m : List ℕ} {i : ℕ} → Writing k a xs m₀ m i → length xs ≤ i → m ≡ take a m₀ ++ (le_all k xs ++ drop (a + k * length xs) m₀)
  all-written {m} {i} w h =
      let e : i ≡ length xs = omega (arith, w.within) in
      w.memory ∙ rw (e, take-length xs)
