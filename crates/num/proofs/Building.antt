-- A loop that fills a list of n entries from the front, entry k with f k: x are done. Assumes nothing.
use mathlib.Core.Path.{◌≡◌, ◌∙◌}
use mathlib.Core.List.{List}
use Prim.Native.Nat.{ℕ, ◌+◌, ◌≤◌, ◌<◌}
use native.Mathlib.Omega.{arith}
use lib.ListN.{length, get_or, set, length-set}
use Rattle.num.specs.Lists.{build}
use Rattle.num.proofs.Lists.{built}
use Rattle.num.proofs.Stored.{one_more}

module _ (f : ℕ → ℕ) (n : ℕ) where
  pub record Building (out : List ℕ) (x : ℕ) : Type 0 where
    pub within : x ≤ n
    pub long : length out ≡ n
    pub each : (k : ℕ) → k < x → get_or out k 0 ≡ f k

  pub none-built : (out : List ℕ) → length out ≡ n → Building out 0
  none-built out l = record { within = omega arith; long = l; each = λ k h. absurd (omega arith) }

  pub more-built : {out : List ℕ} {x : ℕ} → Building out x → x < n → (v : ℕ) → v ≡ f x → Building (set out x v) (x + 1)
  more-built {out} {x} b h v e =
      let inside : x < length out = omega (arith, b.long) in
      record {
        within = omega arith;
        long = length-set out x v ∙ b.long;
        each = one_more (λ (k i : ℕ). i ≡ f k) out x v 0 inside b.each e;
      }

  pub all-built : {out : List ℕ} {x : ℕ} → Building out x → n ≤ x → out ≡ build n f
  all-built {out} {x} b h = built 0 out n f b.long (λ k l. b.each k (omega arith))
