-- A part of a slice that is lent on: what is lent, and the whole once the part has come back. `&mut s[a..]` reaches to the end.
-- Assumes nothing.
use Prim.Native.Nat.{ℕ, ◌-◌, ◌+◌, ◌≤◌, ◌<◌}
use mathlib.Core.Path.{◌≡◌, sym, ap, ◌∙◌}
use mathlib.Core.List.{List, ◌++◌, append-nil, append_assoc}
use native.Mathlib.Omega.{arith}
use lib.ListN.{length, get_or, take, drop, length-append, length-drop, drop_of_length-le, take-append-drop}
use lib.Seq.{length-take-le, length_front, get_or-take, get_or-drop, take_all, take_at, drop_at, drop-drop}

-- a part: its length, and its elements
module _ {A : Type 0} (a k : ℕ) (s : List A) where
  pub part-long : a + k ≤ length s → length (take k (drop a s)) ≡ k
  part-long h = length-take-le k (drop a s) (omega (arith, length-drop a s))

  pub part_at : (i : ℕ) (d : A) → i < k → get_or (take k (drop a s)) i d ≡ get_or s (a + i) d
  part_at i d h = get_or-take k (drop a s) i d h ∙ get_or-drop a s i d

-- the part that is lent is the rest of the list
pub part-lent : {A : Type 0} (a : ℕ) (s : List A) → take (length s - a) (drop a s) ≡ drop a s
part-lent a s = take_all (length s - a) (drop a s) (omega (arith, length-drop a s))

-- nothing stands behind it
pub part-back : (a : ℕ) (s p : List ℕ) → take a s ++ (p ++ drop (length s - a) (drop a s)) ≡ take a s ++ p
part-back a s p =
    ap (λ (l : List ℕ). take a s ++ l) (
    ap (λ (l : List ℕ). p ++ l) (drop_of_length-le (drop a s) {i = length s - a} (omega (arith, length-drop a s))) ∙ append-nil p
    )

-- t, which the array b holds, is put at the front of the part from a on, which comes back as p: the whole is s with t there
pub front-put : (a : ℕ) (b t s p : List ℕ) → b ≡ t → p ≡ b ++ drop (length b) (take (length s - a) (drop a s))
    → take a s ++ (p ++ drop (length s - a) (drop a s)) ≡ take a s ++ (t ++ drop (a + length t) s)
front-put a b t s p eb ep = part-back a s p ∙ rw (ep, part-lent a s, drop-drop, eb)

-- h is put at the front of s, then t at the front of what follows it: s now begins with h and t, and is itself behind them
pub front-twice : (n : ℕ) (h t s o p : List ℕ) → length h ≡ n → o ≡ h ++ drop n s → p ≡ t ++ drop (length t) (take (length o - n) (drop n o))
    → take n o ++ (p ++ drop (length o - n) (drop n o)) ≡ (h ++ t) ++ drop (n + length t) s
front-twice n h t s o p e eo ep =
    part-back n o p
    ∙ rw (ep, part-lent, eo, take_at h (drop n s) n e, drop_at h (drop n s) n e, drop-drop, append_assoc)

-- A memory that is written from the front: m was m₀, and its first a bytes are p
pub record Front (a : ℕ) (p m₀ m : List ℕ) : Type 0 where
  pub long : length p ≡ a
  pub whole : m ≡ p ++ drop a m₀

pub front-start : (a : ℕ) (m₀ : List ℕ) → a ≤ length m₀ → Front a (take a m₀) m₀ m₀
front-start a m₀ h = record { long = length-take-le a m₀ h; whole = sym (take-append-drop a m₀) }

-- it is as long as it was
pub front_long : {a : ℕ} {p m₀ m : List ℕ} → Front a p m₀ m → a ≤ length m₀ → length m ≡ length m₀
front_long {a} {p} {m₀} f h = ap length f.whole ∙ length_front m₀ p a (f.long ∙ sym (length-take-le a m₀ h))

-- t is put behind them, over n bytes
pub front-whole : {a : ℕ} {p m₀ m : List ℕ} (n : ℕ) (t m' : List ℕ) → Front a p m₀ m → m' ≡ take a m ++ (t ++ drop (a + n) m) → m' ≡ (p ++ t) ++ drop (a + n) m₀
front-whole {a} {p} {m₀} {m} n t m' f e =
    let front : take a m ≡ p = rw f.whole (take_at p (drop a m₀) a f.long) in
    let back : drop (a + n) m ≡ drop (a + n) m₀ =
    sym (drop-drop n a m) ∙ rw (f.whole, drop_at p (drop a m₀) a f.long) (drop-drop n a m₀)
    in
    e ∙ rw (front, back) (sym (append_assoc p t (drop (a + n) m₀)))

pub front-next : {a : ℕ} {p m₀ m : List ℕ} (n : ℕ) (t m' : List ℕ) → Front a p m₀ m → length t ≡ n → m' ≡ take a m ++ (t ++ drop (a + n) m) → Front (a + n) (p ++ t) m₀ m'
front-next {a} {p} n t m' f l e = record { long = length-append p t ∙ rw (f.long, l); whole = front-whole n t m' f e }
