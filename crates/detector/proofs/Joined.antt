-- Laws of verdicts: one from two. Assumes nothing.
use mathlib.Core.Path.{◌≡◌, refl, ap}
use Prim.Native.Nat.{ℕ, max, ◌≤◌, ◌<◌}
use native.Mathlib.Omega.{arith}
use Rattle.detector.specs.Verdict.{either_of}
use Rattle.detector.specs.declared.Verdict.{Verdict}
use Rattle.detector.specs.declared.Verdict.TheVariants.{Warming, Absent, Present}

module _ (s o : Verdict) (a b : ℕ) (es : s ≡ Present a) (eo : o ≡ Present b) where
  pub both_first : b < a → Present a ≡ either_of s o
  both_first h = let e : a ≡ max a b = omega arith in rw (es, eo) (ap Present e)

  pub both-second : a ≤ b → Present b ≡ either_of s o
  both-second h = let e : b ≡ max a b = omega arith in rw (es, eo) (ap Present e)

absent_by : (o : Verdict) → o ≡ either_of Absent o
absent_by Warming = refl
absent_by Absent = refl
absent_by (Present b) = refl

pub absent-first : (s o : Verdict) → s ≡ Absent → o ≡ either_of s o
absent-first s o e = rw e (absent_by o)
