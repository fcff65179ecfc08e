-- The order of signed numbers, beside what `lib.Signed` has. Assumes nothing.
use mathlib.Core.Path.{◌≡◌, sym}
use mathlib.Core.Bool.{true, false}
use native.Mathlib.Nat.{lt_of_le_of_lt, lt_of_lt_of_le, le_of_lt}
use borrow.Author.Tests.{leb-false}
use lib.Dec.{T, leb→le, le→leb, ltb→lt, lt→ltb}
use lib.IntN.{ℤ, pos, negsuc}
use lib.Signed.{le_z, lt_z, ◌≤ℤ◌, ◌<ℤ◌}
use Rattle.num.proofs.Logic.{never}

le-lt : (a b c : ℤ) → T (le_z a b) → T (lt_z b c) → T (lt_z a c)
le-lt (pos a) (pos b) (pos c) h k = lt→ltb a c (lt_of_le_of_lt (leb→le a b h) (ltb→lt b c k))
le-lt (pos a) (pos b) (negsuc c) h k = k
le-lt (pos a) (negsuc b) c h k = absurd h
le-lt (negsuc a) (pos b) (pos c) h k = tt
le-lt (negsuc a) (pos b) (negsuc c) h k = absurd k
le-lt (negsuc a) (negsuc b) (pos c) h k = tt
le-lt (negsuc a) (negsuc b) (negsuc c) h k = lt→ltb c a (lt_of_lt_of_le (ltb→lt c b k) (leb→le b a h))

pub ≤ℤ-<ℤ-trans : {a b c : ℤ} → a ≤ℤ b → b <ℤ c → a <ℤ c
≤ℤ-<ℤ-trans {a} {b} {c} h k = record { lt = le-lt a b c h.le k.lt }

lt-le : (a b : ℤ) → T (lt_z a b) → T (le_z a b)
lt-le (pos a) (pos b) h = le→leb a b (le_of_lt (ltb→lt a b h))
lt-le (pos a) (negsuc b) h = h
lt-le (negsuc a) (pos b) h = tt
lt-le (negsuc a) (negsuc b) h = le→leb b a (le_of_lt (ltb→lt b a h))

pub <ℤ-≤ℤ : {a b : ℤ} → a <ℤ b → a ≤ℤ b
<ℤ-≤ℤ {a} {b} h = record { le = lt-le a b h.lt }

-- a test, passed and failed
pub le_z-true : (a b : ℤ) → le_z a b ≡ true → a ≤ℤ b
le_z-true a b e = record { le = rw e tt }

pub le_z-false : (a b : ℤ) → le_z a b ≡ false → b <ℤ a
le_z-false (pos a) (pos b) e = record { lt = lt→ltb b a (leb-false a b e) }
le_z-false (pos a) (negsuc b) e = record { lt = tt }
le_z-false (negsuc a) (pos b) e = absurd (never (sym e))
le_z-false (negsuc a) (negsuc b) e = record { lt = lt→ltb a b (leb-false b a e) }
