-- An element of an array of signed numbers that is a struct's field fits its width. (`needs` has the same of unsigned numbers.) Assumes nothing.
use Prim.Native.Nat.{ℕ, zero, suc}
use mathlib.Core.Path.{subst}
use mathlib.Core.List.{List, [], ◌∷◌, map, map-id}
use lib.IntN.{ℤ, pos}
use lib.ListN.{get_or}
use lib.Pow.{pow_pos}
use mir.Syntax.{Width}
use mir.Val.{Val, SFits, hbits}
use denote.Array.{each}
use denote.Shadow.{shadow}
use denote.Signed.{SInt}

module _ {w : Width} where
  each_signed : (zs : List ℤ) (us : List Val) (i : ℕ) → shadow (each ℤ (SInt w).own_val zs us) → SFits w (get_or zs i (pos 0))
  each_signed [] us i p = record { sfits = pow_pos (hbits w) }
  each_signed (z ∷ zs) [] i p = absurd p
  each_signed (z ∷ zs) (u ∷ us) zero p = record { sfits = p.0.1 }
  each_signed (z ∷ zs) (u ∷ us) (suc i) p = each_signed zs us i p.1

  pub elem-signed : (zs : List ℤ) (us : List Val) (i : ℕ) → shadow (each ℤ (SInt w).own_val (map (λ (v : ℤ). v) zs) us) → SFits w (get_or zs i (pos 0))
  elem-signed zs us i p = each_signed zs us i (subst (λ (ys : List ℤ). shadow (each ℤ (SInt w).own_val ys us)) (map-id zs) p)
