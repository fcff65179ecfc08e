-- A series of n samples with zeros behind it: sums of products of samples that are a lag apart, and their size. Assumes nothing.
use mathlib.Core.Path.{◌≡◌, sym, ap, ◌∙◌}
use mathlib.Core.List.{List}
use Prim.Native.Nat.{ℕ, ◌+◌, ◌-◌, ◌*◌, ◌≤◌}
use native.Mathlib.Omega.{arith}
use lib.ListN.{length, take, drop, length-take}
use lib.Seq.{take_all, get_or-drop}
use lib.IntN.{ℤ, pos, nat_abs, ◌*ℤ◌}
use lib.Signed.{quot_z}
use Rattle.num.specs.Sum.{dot_z}
use Rattle.num.proofs.Clamp.{clamp-size}
use Rattle.num.proofs.Dot.{dot-cut, dot-front, dot-self-size, part-size}
use Rattle.vitals.specs.Correlation.{energy, lagged, corr_of}
use Rattle.vitals.specs.Energy.{most_energy}
use Rattle.vitals.specs.Steps.{Samples, Summable, ZerosFrom}
use Rattle.vitals.proofs.Windows.{samples-take}

module _ (n : ℕ) (x : List ℤ) (long : n ≤ length x) (zeros : ZerosFrom n x) where
  -- the squares of the zeros add nothing
  same-energy : nat_abs (dot_z x x) ≡ energy (take n x)
  same-energy =
      let e : n - 0 ≡ n = omega arith in
      ap nat_abs (sym (ap (λ (l : List ℤ). dot_z l x) (take_all (length x) x (omega arith)))
      ∙ dot-cut n (length x) x x (omega (arith, long)) zeros
      ∙ ap (λ (k : ℕ). dot_z (take k x) x) (sym e) ∙ dot-front n 0 x (omega arith))

  pub sums-fit : (lag : ℕ) → energy (take n x) ≤ 2147483647 → Summable x (drop lag x)
  sums-fit lag h k m = omega (arith, part-size x lag k m, same-energy)

  pub zeros-from : (lag : ℕ) → lag ≤ n → ZerosFrom (n - lag) (drop lag x)
  zeros-from lag h k l = get_or-drop lag x k (pos 0) ∙ zeros (lag + k) (omega arith)

-- the size of the energy, and of every sum
pub lagged-size : (x : List ℤ) (lag : ℕ) → nat_abs (lagged x lag) ≤ energy x
lagged-size x lag = omega (arith, ap (λ (l : List ℤ). nat_abs (dot_z l (drop lag x))) (take_all (length x) x (omega arith)), part-size x lag 0 (length x))

pub corr-size : (x : List ℤ) (lag : ℕ) → nat_abs (corr_of x lag) ≤ 2000
unfolding corr_of
corr-size x lag = clamp-size 1999 2000 (quot_z (lagged x lag *ℤ pos 1000 *ℤ pos (length x)) (pos ((length x - lag) * energy x)))

pub energy-size : (n : ℕ) (x : List ℤ) → n ≤ 512 → Samples x → energy (take n x) ≤ most_energy
energy-size n x few samples = omega (arith, dot-self-size 32768 (take n x) (samples-take n x samples), length-take n x)
