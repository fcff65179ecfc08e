-- Laws of rows and columns: the rows cut out of a list of entries, one stored entry, one replaced row, and the carried sums after it. Assumes nothing.
use mathlib.Core.Path.{◌≡◌, refl, sym, ap, ◌∙◌}
use mathlib.Core.List.{List, [], ◌∷◌}
use Prim.Native.Nat.{ℕ, zero, suc, ◌+◌, ◌*◌, ◌<◌}
use native.Mathlib.Nat.{suc-mul, zero-mul, zero-add, add_comm, add_assoc}
use native.Mathlib.Numerals.{add-one}
use native.Mathlib.Decide.{ℕ_discrete}
use native.Mathlib.Omega.{arith}
use lib.ListN.{length, take, drop, get_or, set, length-map, length-drop, get_or-map}
use lib.Seq.{get_or-take, get_or-drop, take-set-lt, drop-set-lt, take-set-le, drop-set-add, length-take-le, get_or-set_same, get_or-set_other, set-get_or}
use Rattle.window.specs.Window.{column, cut, overwrite}
use Rattle.window.specs.Sums.{Summing, Lawful, column_sum, CarriedBy}
use Rattle.window.proofs.Totals.{total-set}

pub length_cut : (w c : ℕ) (es : List ℕ) → length (cut w c es) ≡ w
unfolding cut
length_cut zero c es = refl
length_cut (suc w) c es = ap suc (length_cut w c (drop c es))

-- a row has c entries
pub length-row : (w c : ℕ) (es : List ℕ) (slot : ℕ) → slot < w → length es ≡ w * c → length (get_or (cut w c es) slot []) ≡ c
unfolding cut
length-row zero c es slot h l = absurd (omega arith)
length-row (suc w) c es zero h l = length-take-le c es (omega (arith, suc-mul w c))
length-row (suc w) c es (suc slot) h l = length-row w c (drop c es) slot (omega arith) (omega (arith, suc-mul w c, length-drop c es))

-- the entry of a row is the entry of the list at slot * c + sc
pub cut_at : (w c : ℕ) (es : List ℕ) (slot sc : ℕ) → slot < w → sc < c → get_or (get_or (cut w c es) slot []) sc 0 ≡ get_or es (slot * c + sc) 0
unfolding cut
cut_at zero c es slot sc h k = absurd (omega arith)
cut_at (suc w) c es zero sc h k = rw (zero-mul, zero-add) (get_or-take c es sc 0 k)
cut_at (suc w) c es (suc slot) sc h k = rw (suc-mul, add_comm (slot * c) c, add_assoc) (cut_at w c (drop c es) slot sc (omega arith) k ∙ get_or-drop c es (slot * c + sc) 0)

-- a store of one entry changes that entry of its row
pub cut-set : (w c : ℕ) (es : List ℕ) (slot sc v : ℕ) → slot < w → sc < c → cut w c (set es (slot * c + sc) v) ≡ set (cut w c es) slot (set (get_or (cut w c es) slot []) sc v)
unfolding cut
cut-set zero c es slot sc v h k = absurd (omega arith)
cut-set (suc w) c es zero sc v h k = rw (zero-mul, zero-add, take-set-lt c es sc v k, drop-set-lt c es sc v k)
cut-set (suc w) c es (suc slot) sc v h k =
    rw (suc-mul, add_comm (slot * c) c, add_assoc, take-set-le c es (c + (slot * c + sc)) v (omega arith), drop-set-add c es (slot * c + sc) v)
    (ap (λ (l : List (List ℕ)). take c es ∷ l) (cut-set w c (drop c es) slot sc v (omega arith) k))

pub length-column : (rows : List (List ℕ)) (sc : ℕ) → length (column rows sc) ≡ length rows
unfolding column
length-column rows sc = length-map rows (λ (row : List ℕ). get_or row sc 0)

pub column-at : (rows : List (List ℕ)) (sc i : ℕ) → get_or (column rows sc) i 0 ≡ get_or (get_or rows i []) sc 0
unfolding column
column-at rows sc i = get_or-map (λ (row : List ℕ). get_or row sc 0) rows i []

pub column-take : (n : ℕ) (rows : List (List ℕ)) (sc : ℕ) → column (take n rows) sc ≡ take n (column rows sc)
unfolding column
column-take zero rows sc = refl
column-take (suc n) [] sc = refl
column-take (suc n) (row ∷ rows) sc = ap (λ (l : List ℕ). get_or row sc 0 ∷ l) (column-take n rows sc)

pub column-set : (rows : List (List ℕ)) (sc i : ℕ) (row : List ℕ) → column (set rows i row) sc ≡ set (column rows sc) i (get_or row sc 0)
unfolding column
column-set [] sc i row = refl
column-set (r ∷ rows) sc zero row = refl
column-set (r ∷ rows) sc (suc i) row = ap (λ (l : List ℕ). get_or r sc 0 ∷ l) (column-set rows sc i row)

-- A store of v at one entry, with its column's sum changed by as much, keeps the sums of f carried
module _ (S : Summing) (lawful : Lawful S) (f : ℕ → S.Number) (c : ℕ) (rows : List (List ℕ)) (sums : List S.Number) (slot sc v : ℕ)
    (in-ring : slot < length rows) (in_row : sc < length (get_or rows slot [])) (in-sums : sc < length sums) (carried : CarriedBy S f c rows sums)
  where
    stored : List (List ℕ)
    stored = set rows slot (set (get_or rows slot []) sc v)

    same-column : S.add (f (get_or (get_or rows slot []) sc 0)) (column_sum S f stored sc) ≡ S.add (f v) (column_sum S f rows sc)
    unfolding stored
    same-column =
        rw (column-set rows sc slot (set (get_or rows slot []) sc v), get_or-set_same (get_or rows slot []) sc v 0 in_row, ← column-at rows sc slot)
        (total-set S.add S.none lawful.exchange f (column rows sc) slot v (rw (length-column rows sc) in-ring))

    other-column : (k : ℕ) → (k ≡ sc → ⊥) → column_sum S f stored k ≡ column_sum S f rows k
    unfolding stored
    other-column k ne =
        rw (column-set rows k slot (set (get_or rows slot []) sc v), get_or-set_other (get_or rows slot []) sc k v 0 ne, ← column-at rows k slot, set-get_or (column rows k) slot 0)

    pub carried-set : sc < c → (s : S.Number) → S.add (f (get_or (get_or rows slot []) sc 0)) s ≡ S.add (f v) (get_or sums sc S.none)
        → CarriedBy S f c (set rows slot (set (get_or rows slot []) sc v)) (set sums sc s)
    unfolding stored
    carried-set in_c s e k h = either (ℕ_discrete k sc)
      where
        either : Dec (k ≡ sc) → get_or (set sums sc s) k S.none ≡ column_sum S f stored k
        either (yes q) =
            rw q
            (get_or-set_same sums sc s S.none in-sums
            ∙ lawful.cancel (f (get_or (get_or rows slot []) sc 0)) s (column_sum S f stored sc) (e ∙ ap (S.add (f v)) (carried sc in_c) ∙ sym same-column))
        either (no ne) = get_or-set_other sums sc k s S.none ne ∙ carried k h ∙ sym (other-column k ne)

-- a row overwritten with one entry more
pub overwrite-suc : (row new : List ℕ) (i : ℕ) → i < length row → i < length new → set (overwrite row new i) i (get_or new i 0) ≡ overwrite row new (i + 1)
overwrite-suc row new i h k = store row new i h k ∙ ap (overwrite row new) (sym (add-one i))
  where
    store : (row new : List ℕ) (i : ℕ) → i < length row → i < length new → set (overwrite row new i) i (get_or new i 0) ≡ overwrite row new (suc i)
    store [] new i h k = absurd (omega arith)
    store (x ∷ row) [] i h k = absurd (omega arith)
    store (x ∷ row) (y ∷ new) zero h k = refl
    store (x ∷ row) (y ∷ new) (suc i) h k = ap (λ (l : List ℕ). y ∷ l) (store row new i (omega arith) (omega arith))
