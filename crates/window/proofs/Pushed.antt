-- A window after a push: one row more, up to w, and rows of one length stay so; the last w of a list. Assumes nothing.
use mathlib.Core.Path.{◌≡◌, sym, ap}
use mathlib.Core.List.{List, [], ◌∷◌, ◌++◌, map}
use Prim.Native.Nat.{ℕ, zero, suc, ◌+◌, ◌-◌, ◌≤◌, min}
use native.Mathlib.Omega.{arith}
use lib.ListN.{length, drop, length-map, length-append, length-drop, drop_of_length-le}
use lib.Seq.{drop-append-le, drop-drop}
use Rattle.num.proofs.Lists.{drop-map}
use Rattle.window.specs.Window.{push_row, last_of, Long}
use Rattle.window.proofs.View.{long-drop, long-append}

module _ (w : ℕ) (window : List (List ℕ)) (row : List ℕ) where
  pub length_push : length window ≤ w → length (push_row w window row) ≡ min w (length window + 1)
  unfolding push_row
  length_push few =
      omega (arith, length-drop (length window + 1 - w) (window ++ (row ∷ [])), length-append window (row ∷ []))

  pub long-push : (n : ℕ) → Long n window → length row ≡ n → Long n (push_row w window row)
  unfolding push_row
  long-push n long e = long-drop n (length window + 1 - w) (window ++ (row ∷ [])) (long-append n window (row ∷ []) long one)
    where
      one : Long n (row ∷ [])
      one zero h = e
      one (suc i) h = absurd (omega arith)

  -- the window then is the last w of the rows
  pub push-last : push_row w window row ≡ last_of w (window ++ (row ∷ []))
  unfolding push_row
  push-last = ap (λ (k : ℕ). drop (k - w) (window ++ (row ∷ []))) (sym (length-append window (row ∷ [])))

module _ {A : Type 0} (w : ℕ) where
  -- what went before the last w makes no difference
  pub last-of-last : (l m : List A) → last_of w (last_of w l ++ m) ≡ last_of w (l ++ m)
  last-of-last l m =
      let k : ℕ = length l - w in
      let whole : length (l ++ m) ≡ length l + length m = length-append l m in
      let skipped : k + (length (drop k (l ++ m)) - w) ≡ length (l ++ m) - w = omega (arith, length-drop k (l ++ m)) in
      rw (sym (drop-append-le k l m (omega arith)), drop-drop (length (drop k (l ++ m)) - w) k (l ++ m), skipped)

  pub last-behind : (l m : List A) → length m ≡ w → last_of w (l ++ m) ≡ m
  last-behind l m e =
      let k : length (l ++ m) - w ≡ length l = omega (arith, length-append l m) in
      rw (k, drop-append-le (length l) l m (omega arith), drop_of_length-le l {i = length l} (omega arith))

  pub last-full : (l : List A) → w ≤ length l → length (last_of w l) ≡ w
  last-full l h = omega (arith, length-drop (length l - w) l)

  pub last-map : {B : Type 0} (f : A → B) (l : List A) → last_of w (map f l) ≡ map f (last_of w l)
  last-map f l = rw (length-map l f) (drop-map f (length l - w) l)
