-- Windows of a series: the size of their sums, a window that moves on, and the window around a sample. Assumes nothing.
use mathlib.Core.Path.{◌≡◌, sym, ap, ◌∙◌}
use mathlib.Core.List.{List}
use Prim.Native.Nat.{ℕ, ◌+◌, ◌-◌, ◌*◌, ◌≤◌, ◌<◌}
use native.Mathlib.Omega.{arith}
use lib.ListN.{length, take, drop, length-take}
use lib.Seq.{slice, length-slice, get_or-take, get_or-drop}
use lib.IntN.{ℤ, pos, nat_abs, ◌+ℤ◌, ◌-ℤ◌}
use mir.Syntax.{w32}
use mir.Val.{SFits, to_z, of_z}
use Rattle.num.specs.Sum.{sum_z}
use Rattle.num.proofs.Abs.{add-fits, sub-fits}
use Rattle.num.proofs.Read.{read-abs}
use Rattle.num.proofs.Each.{at_every}
use Rattle.num.proofs.Lists.{take_min}
use Rattle.num.proofs.SumZ.{sum-size, sum-grown, sum-shrunk}
use Rattle.vitals.specs.Series.{at, around}
use Rattle.vitals.specs.Steps.{Samples, Slid, Around}

-- a part of samples
pub samples-take : (m : ℕ) (x : List ℤ) → Samples x → Samples (take m x)
samples-take m x s =
    at_every (λ (z : ℤ). nat_abs z ≤ 32768) (pos 0) (omega arith) (take m x)
    (λ k h. rw (get_or-take m x k (pos 0) (omega (arith, length-take m x))) (s k))

-- the sum of the samples from lo to before hi is no larger than so many samples can give
pub slice-size : (x : List ℤ) (lo hi : ℕ) → hi ≤ length x → Samples x → nat_abs (sum_z (slice lo hi x)) ≤ 32768 * (hi - lo)
slice-size x lo hi h s =
    omega (arith, length-slice lo hi x h, sum-size 32768 (slice lo hi x) (λ k l. small k (omega (arith, length-slice lo hi x h))))
  where
    small : (k : ℕ) → k < hi - lo → nat_abs (at (slice lo hi x) k) ≤ 32768
    small k l = rw (get_or-drop lo (take hi x) k (pos 0), get_or-take hi x (lo + k) (pos 0) (omega arith)) (s (lo + k))

module _ (x : List ℤ) (lo hi : ℕ) (sum : ℤ) (slid : Slid x lo hi sum) (few : length x ≤ 512) (s : Samples x) where
  pub window_size : nat_abs sum ≤ 32768 * (hi - lo)
  window_size = rw slid.total (slice-size x lo hi slid.inside s)

  pub room : nat_abs sum ≤ 16777216
  room = omega (arith, window_size, slid.inside)

  -- a sample added or taken off, as the code has it, v being what it reads
  module _ (k : ℕ) (v : ℤ) (e : v ≡ at x k) where
    pub added : to_z w32 (of_z w32 sum) +ℤ to_z w32 (of_z w32 v) ≡ sum +ℤ at x k
    added = rw (e, read-abs w32 sum (omega (arith, room)), read-abs w32 (at x k) (omega (arith, s k)))

    pub added_fits : SFits w32 (to_z w32 (of_z w32 sum) +ℤ to_z w32 (of_z w32 v))
    added_fits = rw added (add-fits sum (at x k) (omega (arith, room, s k)))

    pub taken : to_z w32 (of_z w32 sum) -ℤ to_z w32 (of_z w32 v) ≡ sum -ℤ at x k
    taken = rw (e, read-abs w32 sum (omega (arith, room)), read-abs w32 (at x k) (omega (arith, s k)))

    pub taken_fits : SFits w32 (to_z w32 (of_z w32 sum) -ℤ to_z w32 (of_z w32 v))
    taken_fits = rw taken (sub-fits sum (at x k) (omega (arith, room, s k)))

  -- one sample more at the end, or one less at the start
  pub longer : (more : ℤ) → more ≡ sum +ℤ at x hi → hi < length x → Slid x lo (hi + 1) more
  longer more e h = record {
    ordered = omega (arith, slid.ordered);
    inside = omega arith;
    total = e ∙ ap (λ (z : ℤ). z +ℤ at x hi) slid.total ∙ sym (sum-grown x lo hi slid.ordered h);
  }

  pub shorter : (less : ℤ) → less ≡ sum -ℤ at x lo → lo < hi → Slid x (lo + 1) hi less
  shorter less e h = record {
    ordered = omega arith;
    inside = slid.inside;
    total = e ∙ ap (λ (z : ℤ). z -ℤ at x lo) slid.total ∙ sym (sum-shrunk x lo hi h slid.inside);
  }

module _ (x : List ℤ) (half i lo hi : ℕ) (sum : ℤ) (a : Around x half i lo hi) (slid : Slid x lo hi sum) where
  same-part : slice lo hi x ≡ around half x i
  same-part = rw (a.low, a.high) (ap (drop (i - half)) (take_min (i + half + 1) x))

  pub around-sum : sum ≡ sum_z (around half x i)
  around-sum = slid.total ∙ ap sum_z same-part

  pub around-long : hi - lo ≡ length (around half x i)
  around-long = sym (length-slice lo hi x slid.inside) ∙ ap length same-part
