-- A state's fields, written one behind the other from the front on: a byte, a word of k bytes, and the 16 low bits of a number. Assumes nothing.
use Prim.Native.Nat.{ℕ, suc, ◌+◌, ◌/◌, ◌%◌, ◌<◌}
use mathlib.Core.Path.{◌≡◌, refl, ap, ◌∙◌, subst}
use mathlib.Core.Bool.{Bool, true, false}
use mathlib.Core.List.{List, [], ◌∷◌, ◌++◌}
use native.Mathlib.Omega.{arith}
use lib.ListN.{length, take, drop, set}
use mir.Val.{bool_byte}
use Rattle.std.proofs.lemmas.List.{set_split}
use Rattle.num.specs.Words.{le_bytes, put_le}
use Rattle.num.proofs.Parts.{Front, front-next, front_long}
use Rattle.num.proofs.Words.{length-le_bytes}
use Rattle.room_memory.specs.Fields.{flag}

module _ {a : ℕ} {p m₀ m : List ℕ} (f : Front a p m₀ m) (i : ℕ) (here : a ≡ i) where
  there : Front i p m₀ m
  there = subst (λ (n : ℕ). Front n p m₀ m) here f

  pub byte-next : (b : ℕ) → i < length m₀ → Front (i + 1) (p ++ (b ∷ [])) m₀ (set m i b)
  byte-next b h =
      let next : suc i ≡ i + 1 = omega arith in
      front-next 1 (b ∷ []) (set m i b) there refl (set_split m i b (omega (arith, h, front_long there (omega (arith, h)))) ∙ ap (λ (n : ℕ). take i m ++ (b ∷ drop n m)) next)

  pub word-next : (k n : ℕ) (m' : List ℕ) → m' ≡ put_le k m i n → Front (i + k) (p ++ le_bytes k n) m₀ m'
  word-next k n m' e = front-next k (le_bytes k n) m' there (length-le_bytes k n) e

  pub short-next : (n : ℕ) (m' : List ℕ) → m' ≡ put_le 2 m i (n % 65536) → Front (i + 2) (p ++ le_bytes 2 n) m₀ m'
  short-next n m' e =
      let low : n % 65536 % 256 ≡ n % 256 = omega arith in
      let high : n % 65536 / 256 % 256 ≡ n / 256 % 256 = omega arith in
      word-next 2 n m' (e ∙ rw (low, high))

  pub fields : m ≡ p ++ drop i m₀
  fields = there.whole

pub flag-byte : (b : Bool) → bool_byte b ≡ flag b
flag-byte true = refl
flag-byte false = refl
