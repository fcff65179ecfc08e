-- The two loops over the columns of a row, on plain values: a row is added to the sums (`Adding`), and a frame is written over a row with the sums
-- carried along (`Written`). Assumes nothing.
use mathlib.Core.Path.{◌≡◌, refl, sym, ap, ◌∙◌}
use mathlib.Core.Bool.{Bool}
use mathlib.Core.List.{List, [], ◌∷◌, ◌++◌}
use Prim.Native.Nat.{ℕ, zero, suc, ◌+◌, ◌*◌, ◌<◌, ◌≤◌}
use native.Mathlib.Decide.{ℕ_discrete}
use native.Mathlib.Omega.{arith}
use borrow.Author.Count.{below_more}
use lib.ListN.{length, take, get_or, set, replicate, length-replicate, length-append}
use lib.Seq.{get_or-set_same, get_or-set_other}
use Rattle.num.specs.Tests.{Tells}
use Rattle.num.proofs.Tests.{tells-iff}
use Rattle.window.specs.Words.{words, put_word}
use Rattle.window.specs.Window.{max_rows, column, ring_rows}
use Rattle.window.specs.Sums.{Summing, Lawful, column_sum, CarriedBy, Carried, Ring}
use Rattle.window.proofs.Totals.{total-take-suc}
use Rattle.window.proofs.Rows.{column-take}
use Rattle.window.proofs.Ring.{ring-at, ring-set, length-ring-column}
use Rattle.window.proofs.Write.{Stored, store-start, store-turn}
use Rattle.sliding.specs.Columns.{OthersKept, Added, Replaced}

-- A ROW IS ADDED

-- the sums of one function: those of the columns below sc have the row in `slot`, the others not yet
pub record Half (S : Summing) (f : ℕ → S.Number) (c slot : ℕ) (rows : List (List ℕ)) (sums : List S.Number) (sc : ℕ) : Type 0 where
  pub done : CarriedBy S f sc (take (slot + 1) rows) sums
  pub left : (k : ℕ) → sc ≤ k → k < c → get_or sums k S.none ≡ column_sum S f (take slot rows) k

module _ (S : Summing) (lawful : Lawful S) (f : ℕ → S.Number) (w c slot : ℕ) (bytes : List ℕ) (in-ring : slot < w) where
  -- a column of one row more
  one_more : (sc : ℕ) → sc < c
      → column_sum S f (take (slot + 1) (ring_rows w c bytes)) sc ≡ S.add (f (get_or (words bytes) (slot * c + sc) 0)) (column_sum S f (take slot (ring_rows w c bytes)) sc)
  one_more sc k =
      let rows : List (List ℕ) = ring_rows w c bytes in
      let there : slot < length (column rows sc) = omega (arith, length-ring-column w c bytes sc) in
      rw (column-take (slot + 1) rows sc, column-take slot rows sc, total-take-suc S.add S.none lawful.exchange f (column rows sc) slot there, ring-at w c bytes slot sc in-ring k)

  half-turn : (sums sums' : List S.Number) (sc : ℕ) → Half S f c slot (ring_rows w c bytes) sums sc → sc < c → (x : ℕ) → x ≡ get_or (words bytes) (slot * c + sc) 0
      → get_or sums' sc S.none ≡ S.add (f x) (get_or sums sc S.none) → OthersKept S.none sc sums sums' → Half S f c slot (ring_rows w c bytes) sums' (sc + 1)
  half-turn sums sums' sc inv more x x-is e others =
      record {
        done =
            below_more _ sc (λ j l. others j (λ q. omega arith) ∙ inv.done j l)
            (e ∙ rw x-is (ap (S.add (f (get_or (words bytes) (slot * c + sc) 0))) (inv.left sc (omega arith) more) ∙ sym (one_more sc more)));
        left = λ j l m. others j (λ q. omega arith) ∙ inv.left j (omega arith) m;
      }

pub record Adding (S : Summing) (w c slot : ℕ) (bytes : List ℕ) (fs gs : List S.Number) (sc : ℕ) : Type 0 where
  pub within : sc ≤ c
  pub firsts : Half S S.f c slot (ring_rows w c bytes) fs sc
  pub seconds : Half S S.g c slot (ring_rows w c bytes) gs sc

module _ (S : Summing) (lawful : Lawful S) (w c slot : ℕ) (bytes : List ℕ) where
  pub add_start : (fs gs : List S.Number) → Carried S c (take slot (ring_rows w c bytes)) fs gs → Adding S w c slot bytes fs gs 0
  add_start fs gs sums =
      record {
        within = omega arith;
        firsts = record { done = λ k h. absurd (omega arith); left = λ k h l. sums.firsts k l };
        seconds = record { done = λ k h. absurd (omega arith); left = λ k h l. sums.seconds k l };
      }

  pub add_turn : slot < w → {fs gs fs' gs' : List S.Number} {sc : ℕ} → Adding S w c slot bytes fs gs sc → sc < c → (x : ℕ) → x ≡ get_or (words bytes) (slot * c + sc) 0
      → Added S sc x fs gs fs' gs' → Adding S w c slot bytes fs' gs' (sc + 1)
  add_turn in-ring {fs} {gs} {fs'} {gs'} {sc} inv more x x-is added =
      record {
        within = omega arith;
        firsts = half-turn S lawful S.f w c slot bytes in-ring fs fs' sc inv.firsts more x x-is added.first added.firsts;
        seconds = half-turn S lawful S.g w c slot bytes in-ring gs gs' sc inv.seconds more x x-is added.second added.seconds;
      }

  pub add-end : {fs gs : List S.Number} {sc : ℕ} → Adding S w c slot bytes fs gs sc → c ≤ sc → Carried S c (take (slot + 1) (ring_rows w c bytes)) fs gs
  add-end inv all = record { firsts = λ k h. inv.firsts.done k (omega arith); seconds = λ k h. inv.seconds.done k (omega arith) }

-- sums like those of a ring's rows are those of the rows, and others are not
pub alike-told : (S : Summing) (w c : ℕ) (bytes : List ℕ) {own owns fs gs : List S.Number} {b : Bool} → Carried S c (ring_rows w c bytes) own owns
    → w ≤ max_rows → length bytes ≡ 2 * (w * c)
    → Tells b ((sc : ℕ) → sc < c → (get_or own sc S.none ≡ get_or fs sc S.none) × (get_or owns sc S.none ≡ get_or gs sc S.none)) → Tells b (Ring S w c bytes fs gs)
alike-told S w c bytes {own} {owns} {fs} {gs} {b} rows small whole told =
    tells-iff b
    (λ same. record { small = small; whole = whole; sums = record { firsts = λ k h. sym (same k h).0 ∙ rows.firsts k h; seconds = λ k h. sym (same k h).1 ∙ rows.seconds k h } })
    (λ ring k h. (rows.firsts k h ∙ sym (ring.sums.firsts k h), rows.seconds k h ∙ sym (ring.sums.seconds k h)))
    told

-- AN ENTRY IS REPLACED

-- a list with as many nothings behind it as there are columns
pad : {A : Type 0} → ℕ → A → List A → List A
pad c none sums = sums ++ replicate c none

at_nothing : {A : Type 0} (c k : ℕ) (none : A) → get_or (replicate c none) k none ≡ none
at_nothing zero k none = refl
at_nothing (suc c) zero none = refl
at_nothing (suc c) (suc k) none = at_nothing c k none

padded : {A : Type 0} (c : ℕ) (none : A) (sums : List A) (k : ℕ) → get_or (pad c none sums) k none ≡ get_or sums k none
unfolding pad
padded c none [] k = at_nothing c k none
padded c none (x ∷ sums) zero = refl
padded c none (x ∷ sums) (suc k) = padded c none sums k

pad-long : {A : Type 0} (c : ℕ) (none : A) (sums : List A) → c ≤ length (pad c none sums)
unfolding pad
pad-long c none sums = omega (arith, length-append sums (replicate c none), length-replicate c none)

-- one number replaced in a padded list
as-set : {A : Type 0} (c : ℕ) (none : A) (sums sums' : List A) (sc : ℕ) → sc < c → OthersKept none sc sums sums'
    → (k : ℕ) → get_or sums' k none ≡ get_or (set (pad c none sums) sc (get_or sums' sc none)) k none
as-set c none sums sums' sc in_c others k = go (ℕ_discrete k sc)
  where
    go : Dec (k ≡ sc) → get_or sums' k none ≡ get_or (set (pad c none sums) sc (get_or sums' sc none)) k none
    go (yes e) = rw e (sym (get_or-set_same (pad c none sums) sc (get_or sums' sc none) none (omega (arith, pad-long c none sums))))
    go (no ne) = others k ne ∙ sym (get_or-set_other (pad c none sums) sc k (get_or sums' sc none) none ne ∙ padded c none sums k)

module _ (S : Summing) (lawful : Lawful S) (w c : ℕ) (bytes : List ℕ) (fs gs fs' gs' : List S.Number) (ring : Ring S w c bytes fs gs) where
  padded-ring : Ring S w c bytes (pad c S.none fs) (pad c S.none gs)
  padded-ring =
      record {
        small = ring.small;
        whole = ring.whole;
        sums = record { firsts = λ k h. padded c S.none fs k ∙ ring.sums.firsts k h; seconds = λ k h. padded c S.none gs k ∙ ring.sums.seconds k h };
      }

  -- one entry stored, with its column's sums changed by as much
  pub ring-replaced : (slot sc v : ℕ) → slot < w → sc < c → Replaced S sc (get_or (words bytes) (slot * c + sc) 0) v fs gs fs' gs'
      → Ring S w c (put_word bytes (slot * c + sc) v) fs' gs'
  ring-replaced slot sc v in-ring in_row r =
      let set-ring =
      ring-set w c bytes S lawful (pad c S.none fs) (pad c S.none gs) padded-ring slot sc v (get_or fs' sc S.none) (get_or gs' sc S.none) in-ring in_row
      (pad-long c S.none fs) (pad-long c S.none gs) (rw (padded c S.none fs sc) r.first) (rw (padded c S.none gs sc) r.second) in
      record {
        small = ring.small;
        whole = set-ring.whole;
        sums = record {
          firsts = λ k h. as-set c S.none fs fs' sc in_row r.firsts k ∙ set-ring.sums.firsts k h;
          seconds = λ k h. as-set c S.none gs gs' sc in_row r.seconds k ∙ set-ring.sums.seconds k h;
        };
      }

-- A FRAME IS WRITTEN

-- the first sc entries are, and the sums are those of the rows as they are now
pub record Written (S : Summing) (w c slot count : ℕ) (new rows₀ rows : List ℕ) (fs gs : List S.Number) (sc : ℕ) : Type 0 where
  pub stored : Stored w c slot count new rows₀ rows sc
  pub bytes : (i : ℕ) → get_or rows i 0 < 256
  pub ring : Ring S w c rows fs gs

module _ (S : Summing) (lawful : Lawful S) (w c slot count : ℕ) (new rows₀ : List ℕ) where
  pub write-start : {fs gs : List S.Number} → Ring S w c rows₀ fs gs → ((i : ℕ) → get_or rows₀ i 0 < 256) → Written S w c slot count new rows₀ rows₀ fs gs 0
  write-start ring bytes = record { stored = store-start w c slot count new rows₀ ring.whole; bytes = bytes; ring = ring }

  -- the next entry, with its column's sums changed by as much
  pub write-turn : length rows₀ ≡ 2 * (w * c) → slot < w → count ≤ c → length new ≡ c → {rows : List ℕ} {fs gs fs' gs' : List S.Number} {sc : ℕ}
      → Written S w c slot count new rows₀ rows fs gs sc → sc < count → (rows' : List ℕ) (old x : ℕ) → old ≡ get_or (words rows) (slot * c + sc) 0 → x ≡ get_or new sc 0
      → Replaced S sc old x fs gs fs' gs' → rows' ≡ put_word rows (slot * c + sc) x → ((i : ℕ) → get_or rows' i 0 < 256)
      → Written S w c slot count new rows₀ rows' fs' gs' (sc + 1)
  write-turn whole₀ in-ring narrow new-long {rows} {fs} {gs} {fs'} {gs'} {sc} inv more rows' old x old_is x-is r put bytes' =
      record {
        stored = store-turn w c slot count new rows₀ whole₀ in-ring narrow (omega (arith, new-long)) rows sc inv.stored more rows' (rw x-is at put);
        bytes = bytes';
        ring = rw put (ring-replaced S lawful w c rows fs gs fs' gs' inv.ring slot sc x in-ring (omega arith) (rw old_is at r));
      }
