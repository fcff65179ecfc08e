-- A series with zeros behind it: samples put in front of them, and that those of a prepared series have 16 bits. Assumes nothing.
use mathlib.Core.Path.{◌≡◌, refl, sym, ap, ◌∙◌}
use mathlib.Core.List.{List, ◌++◌, map}
use Prim.Native.Nat.{ℕ, zero, suc, ◌+◌, ◌-◌, ◌≤◌, ◌<◌}
use native.Mathlib.Decide.{dec_lt}
use native.Mathlib.Omega.{arith}
use lib.ListN.{length, take, drop, replicate, length-map, get_or-append}
use lib.Seq.{length-take-le, get_or-drop, get_or-append-add}
use lib.IntN.{ℤ, pos, nat_abs, ◌-ℤ◌}
use Rattle.num.proofs.Each.{at_every}
use Rattle.num.proofs.Clamp.{clamp-size}
use Rattle.num.proofs.Parts.{part-lent}
use Rattle.num.proofs.Lists.{map_at, length-build, at-build}
use Rattle.vitals.specs.Series.{at, clamp16, mean_of, around, half_of, centred, highpassed}
use Rattle.vitals.specs.Steps.{Samples, ZerosFrom}

pub zero-at : (m k : ℕ) → at (replicate m (pos 0)) k ≡ pos 0
zero-at zero k = refl
zero-at (suc m) zero = refl
zero-at (suc m) (suc k) = zero-at m k

-- how many samples a series has, and what is lent of its room from `lag` on
pub as-long : (n : ℕ) (room now : List ℤ) → length room ≡ 576 → n ≤ 512 → take n room ≡ now → length now ≡ n
as-long n room now l h e = ap length (sym e) ∙ length-take-le n room (omega arith)

pub lent : (lag : ℕ) (room : List ℤ) → length room ≡ 576 → take (576 - lag) (drop lag room) ≡ drop lag room
lent lag room l = ap (λ (m : ℕ). take (m - lag) (drop lag room)) (sym l) ∙ part-lent lag room

-- a series p of n samples put in front
module _ (n : ℕ) (room p : List ℤ) (zeros : ZerosFrom n room) (samples : Samples room) (long : length p ≡ n) where
  behind : (k : ℕ) → n ≤ k → at (p ++ drop n room) k ≡ at room k
  behind k h =
      let e : k ≡ length p + (k - n) = omega arith in
      let f : n + (k - n) ≡ k = omega arith in
      ap (at (p ++ drop n room)) e ∙ get_or-append-add p (drop n room) (k - n) (pos 0) ∙ get_or-drop n room (k - n) (pos 0) ∙ ap (at room) f

  pub put-zeros : ZerosFrom n (p ++ drop n room)
  put-zeros k h = behind k h ∙ zeros k h

  pub put-samples : Samples p → Samples (p ++ drop n room)
  put-samples s k = go (dec_lt k n)
    where
      go : Dec (k < n) → nat_abs (at (p ++ drop n room) k) ≤ 32768
      go (yes h) = rw (get_or-append p (drop n room) (pos 0) k (omega arith)) (s k)
      go (no g) = rw (behind k (omega arith)) (samples k)

-- entries of 16 bits
samples-by : (x : List ℤ) → ((k : ℕ) → k < length x → nat_abs (at x k) ≤ 32768) → Samples x
samples-by x = at_every (λ (z : ℤ). nat_abs z ≤ 32768) (pos 0) (omega arith) x

clamp16-size : (z : ℤ) → nat_abs (clamp16 z) ≤ 32768
clamp16-size z = clamp-size 32767 32767 z

pub length-centred : (x : List ℤ) → length (centred x) ≡ length x
unfolding centred
length-centred x = length-map x (λ (v : ℤ). clamp16 (v -ℤ mean_of x))

pub centred-samples : (x : List ℤ) → Samples (centred x)
unfolding centred
centred-samples x =
    let f : ℤ → ℤ = λ v. clamp16 (v -ℤ mean_of x) in
    samples-by (map f x) (λ k h. rw (map_at f x k (pos 0) (pos 0) (omega (arith, length-map x f))) (clamp16-size (at x k -ℤ mean_of x)))

pub length-highpassed : (m : ℕ) (x : List ℤ) → length (highpassed m x) ≡ length x
unfolding highpassed
length-highpassed m x = length-build (length x) _

pub highpassed-samples : (m : ℕ) (x : List ℤ) → Samples (highpassed m x)
unfolding highpassed
highpassed-samples m x =
    let f : ℕ → ℤ = λ i. clamp16 (at x i -ℤ mean_of (around (half_of m (length x)) x i)) in
    samples-by (highpassed m x) (λ k h. rw (at-build (length x) f k (pos 0) (omega (arith, length-build (length x) f))) (clamp16-size (at x k -ℤ mean_of (around (half_of m (length x)) x k))))
