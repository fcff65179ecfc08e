-- Laws of the ring in memory, for every sum: an entry lies within it, one stored entry keeps the sums carried, the sums are of the size that
-- their number of rows allows, and cleared memory is a ring. Assumes nothing.
use mathlib.Core.Path.{◌≡◌, sym, ap, ◌∙◌}
use mathlib.Core.List.{List, []}
use Prim.Native.Nat.{ℕ, ◌+◌, ◌*◌, ◌<◌, ◌≤◌}
use native.Mathlib.Omega.{arith}
use lib.Arith.{digits_lt}
use lib.ListN.{length, get_or, set, replicate, length-replicate, get_or-replicate}
use Rattle.num.proofs.Lists.{all_same}
use Rattle.window.specs.Words.{words, put_word}
use Rattle.window.specs.Window.{max_rows, column, ring_rows}
use Rattle.window.specs.Sums.{total_by, Summing, Lawful, Ring}
use Rattle.window.proofs.Words.{words-put, words-below, zero-words, length-put, length-words}
use Rattle.window.proofs.Rows.{length_cut, length-row, cut_at, cut-set, length-column, column-at, carried-set}

module _ (w c : ℕ) (bytes : List ℕ) where
  -- both bytes of an entry of the ring are there
  pub entry-within : length bytes ≡ 2 * (w * c) → (slot sc : ℕ) → slot < w → sc < c → 2 * (slot * c + sc) + 1 < length bytes
  entry-within whole slot sc h k = omega (arith, digits_lt {q = slot} {m = w} {r = sc} {c = c} h k)

  pub ring-at : (slot sc : ℕ) → slot < w → sc < c → get_or (column (ring_rows w c bytes) sc) slot 0 ≡ get_or (words bytes) (slot * c + sc) 0
  ring-at slot sc h k = column-at (ring_rows w c bytes) sc slot ∙ cut_at w c (words bytes) slot sc h k

  pub length-ring-row : length bytes ≡ 2 * (w * c) → (slot : ℕ) → slot < w → length (get_or (ring_rows w c bytes) slot []) ≡ c
  length-ring-row whole slot h = length-row w c (words bytes) slot h (length-words (w * c) bytes whole)

  pub ring-put : length bytes ≡ 2 * (w * c) → (slot sc v : ℕ) → slot < w → sc < c
      → ring_rows w c (put_word bytes (slot * c + sc) v) ≡ set (ring_rows w c bytes) slot (set (get_or (ring_rows w c bytes) slot []) sc v)
  ring-put whole slot sc v h k = rw (words-put bytes (slot * c + sc) v (entry-within whole slot sc h k)) (cut-set w c (words bytes) slot sc v h k)

  pub length-ring-column : (sc : ℕ) → length (column (ring_rows w c bytes) sc) ≡ w
  length-ring-column sc = length-column (ring_rows w c bytes) sc ∙ length_cut w c (words bytes)

  -- the entries of a column have 16 bits
  pub column-below : ((i : ℕ) → get_or bytes i 0 < 256) → (sc : ℕ) → sc < c → (i : ℕ) → i < length (column (ring_rows w c bytes) sc) → get_or (column (ring_rows w c bytes) sc) i 0 < 65536
  column-below bytes_fit sc k i h =
      omega (arith, ring-at i sc (omega (arith, length-ring-column sc)) k, words-below bytes bytes_fit (i * c + sc))

  module _ (S : Summing) (lawful : Lawful S) (fs gs : List S.Number) (ring : Ring S w c bytes fs gs) where
    -- one entry stored, with its column's sums changed by as much
    pub ring-set : (slot sc v : ℕ) (s q : S.Number) → slot < w → sc < c → c ≤ length fs → c ≤ length gs
        → S.add (S.f (get_or (words bytes) (slot * c + sc) 0)) s ≡ S.add (S.f v) (get_or fs sc S.none)
        → S.add (S.g (get_or (words bytes) (slot * c + sc) 0)) q ≡ S.add (S.g v) (get_or gs sc S.none)
        → Ring S w c (put_word bytes (slot * c + sc) v) (set fs sc s) (set gs sc q)
    ring-set slot sc v s q h k lf lg ef eg =
        let rows : List (List ℕ) = ring_rows w c bytes in
        let in-ring : slot < length rows = rw (length_cut w c (words bytes)) h in
        let in_row : sc < length (get_or rows slot []) = rw (length-ring-row ring.whole slot h) k in
        let at : get_or (get_or rows slot []) sc 0 ≡ get_or (words bytes) (slot * c + sc) 0 = cut_at w c (words bytes) slot sc h k in
        let put : ring_rows w c (put_word bytes (slot * c + sc) v) ≡ set rows slot (set (get_or rows slot []) sc v) = ring-put ring.whole slot sc v h k in
        record {
          small = ring.small;
          whole = length-put bytes (slot * c + sc) v ∙ ring.whole;
          sums = record {
            firsts = rw put (carried-set S lawful S.f c rows fs slot sc v in-ring in_row (omega arith) ring.sums.firsts k s (rw at ef));
            seconds = rw put (carried-set S lawful S.g c rows gs slot sc v in-ring in_row (omega arith) ring.sums.seconds k q (rw at eg));
          };
        }

-- cleared memory with the sums of w zeros is a ring: in a sum of cosines a zero is not nothing
pub ring-zero : (S : Summing) (w c n : ℕ) (a b : S.Number) → w ≤ max_rows → n ≡ 2 * (w * c)
    → a ≡ total_by S.add S.none S.f (replicate w 0) → b ≡ total_by S.add S.none S.g (replicate w 0)
    → Ring S w c (replicate n 0) (replicate c a) (replicate c b)
ring-zero S w c n a b small whole ea eb =
    record {
      small = small;
      whole = length-replicate n 0 ∙ whole;
      sums = record {
        firsts = λ sc h. get_or-replicate c sc a S.none h ∙ ea ∙ ap (total_by S.add S.none S.f) (sym (zeros sc h));
        seconds = λ sc h. get_or-replicate c sc b S.none h ∙ eb ∙ ap (total_by S.add S.none S.g) (sym (zeros sc h));
      };
    }
  where
    zeros : (sc : ℕ) → sc < c → column (ring_rows w c (replicate n 0)) sc ≡ replicate w 0
    zeros sc h =
        let col : List ℕ = column (ring_rows w c (replicate n 0)) sc in
        let len : length col ≡ w = length-ring-column w c (replicate n 0) sc in
        all_same 0 0 col (λ i k. ring-at w c (replicate n 0) i sc (omega arith) h ∙ zero-words n (i * c + sc)) ∙ ap (λ (m : ℕ). replicate m 0) len
