-- Laws of little-endian words: bytes and the number that they hold go over into each other. Assumes nothing.
use Prim.Native.Nat.{ℕ, zero, suc, ◌+◌, ◌*◌, ◌/◌, ◌%◌, ◌^◌, ◌≤◌, ◌<◌}
use mathlib.Core.Path.{◌≡◌, refl, sym, ap, ◌∙◌}
use mathlib.Core.List.{List, [], ◌∷◌, ◌++◌}
use native.Mathlib.Omega.{arith}
use lib.ListN.{length, get_or, take, drop, length-take, length-drop}
use lib.Seq.{get_or-drop, length-take-le, drop-cons, drop-append-add}
use Rattle.std.proofs.lemmas.List.{drop_all}
use Rattle.num.specs.Words.{le, le_at, le_bytes}
use Rattle.num.proofs.Each.{at_every}
use Rattle.num.proofs.Parts.{part_at}

pub length-le_bytes : (k n : ℕ) → length (le_bytes k n) ≡ k
length-le_bytes zero n = refl
length-le_bytes (suc k) n = ap suc (length-le_bytes k (n / 256))

-- the number of the bytes of a number that k bytes can hold
pub le-le_bytes : (k n : ℕ) → n < 256 ^ k → le (le_bytes k n) ≡ n
unfolding le
le-le_bytes zero n h = omega arith
le-le_bytes (suc k) n h =
    let p : 256 ^ suc k ≡ 256 * 256 ^ k = omega arith in
    let e : le (le_bytes k (n / 256)) ≡ n / 256 = le-le_bytes k (n / 256) (omega arith) in
    omega arith

-- the bytes of the number that bytes hold
pub le_bytes-le : (bytes : List ℕ) → ((i : ℕ) → get_or bytes i 0 < 256) → le_bytes (length bytes) (le bytes) ≡ bytes
unfolding le
le_bytes-le [] f = refl
le_bytes-le (b ∷ bs) f =
    let h : b < 256 = f 0 in
    let low : (b + 256 * le bs) % 256 ≡ b = omega arith in
    let high : (b + 256 * le bs) / 256 ≡ le bs = omega arith in
    rw (low, high, le_bytes-le bs (λ i. f (suc i)))

-- each of a part is a byte, and of all that stand behind the first a
pub byte-part : (s : List ℕ) → ((i : ℕ) → get_or s i 0 < 256) → (a k i : ℕ) → get_or (take k (drop a s)) i 0 < 256
byte-part s f a k =
    at_every (λ (x : ℕ). x < 256) 0 (omega arith) (take k (drop a s)) (λ i h. rw (part_at a k s i 0 (omega (arith, length-take k (drop a s)))) (f (a + i)))

pub byte-drop : (s : List ℕ) → ((i : ℕ) → get_or s i 0 < 256) → (a i : ℕ) → get_or (drop a s) i 0 < 256
byte-drop s f a i = rw (get_or-drop a s i 0) (f (a + i))

-- a word of what stands behind p
pub le_at-behind : (p x : List ℕ) (j k : ℕ) → le_at (p ++ x) (length p + j) k ≡ le_at x j k
le_at-behind p x j k = rw (drop-append-add p x j)

pub le_bytes-le_at : (s : List ℕ) → ((i : ℕ) → get_or s i 0 < 256) → (a k : ℕ) → a + k ≤ length s → le_bytes k (le_at s a k) ≡ take k (drop a s)
le_bytes-le_at s f a k h =
    let long : length (take k (drop a s)) ≡ k = length-take-le k (drop a s) (omega (arith, length-drop a s)) in
    ap (λ (n : ℕ). le_bytes n (le_at s a k)) (sym long) ∙ le_bytes-le (take k (drop a s)) (byte-part s f a k)

-- a word of k bytes is below 256 ^ k
pub le-bound : (bytes : List ℕ) → ((i : ℕ) → get_or bytes i 0 < 256) → le bytes < 256 ^ length bytes
unfolding le
le-bound [] f = omega arith
le-bound (b ∷ bs) f =
    let h : b < 256 = f 0 in let k = le-bound bs (λ i. f (suc i)) in
    let p : 256 ^ suc (length bs) ≡ 256 * 256 ^ length bs = omega arith in
    omega arith

-- a word byte by byte, and its end
pub le-from : (s : List ℕ) (i : ℕ) → i < length s → le (drop i s) ≡ get_or s i 0 + 256 * le (drop (suc i) s)
unfolding le
le-from s i h = rw (drop-cons s i 0 h)

pub le-past : (s : List ℕ) (n : ℕ) → length s ≤ n → le (drop n s) ≡ 0
unfolding le
le-past s n h = rw (drop_all n s h)
