-- The loop that writes a row entry by entry, on plain values. Assumes nothing.
use mathlib.Core.Path.{◌≡◌, sym, ap, ◌∙◌}
use mathlib.Core.List.{List, []}
use Prim.Native.Nat.{ℕ, ◌+◌, ◌*◌, ◌<◌, ◌≤◌}
use native.Mathlib.Omega.{arith}
use lib.ListN.{length, get_or, set}
use lib.Seq.{set-get_or, set-set, get_or-set_same}
use Rattle.window.specs.Words.{words, put_word}
use Rattle.window.specs.Window.{ring_rows, overwrite}
use Rattle.window.proofs.Words.{length-put}
use Rattle.window.proofs.Rows.{overwrite-suc, length_cut}
use Rattle.window.proofs.Ring.{ring-put, length-ring-row}

-- the first sc entries of the row are written
pub record Stored (w c slot count : ℕ) (new rows₀ rows : List ℕ) (sc : ℕ) : Type 0 where
  pub within : sc ≤ count
  pub whole : length rows ≡ 2 * (w * c)
  pub written : ring_rows w c rows ≡ set (ring_rows w c rows₀) slot (overwrite (get_or (ring_rows w c rows₀) slot []) new sc)

module _ (w c slot count : ℕ) (new rows₀ : List ℕ) (whole₀ : length rows₀ ≡ 2 * (w * c)) where
  pub store-start : Stored w c slot count new rows₀ rows₀ 0
  store-start = record { within = omega arith; whole = whole₀; written = sym (set-get_or (ring_rows w c rows₀) slot []) }

  module _ (in-ring : slot < w) (narrow : count ≤ c) (wide : count ≤ length new) (rows : List ℕ) (sc : ℕ) (inv : Stored w c slot count new rows₀ rows sc) (more : sc < count) where
    pub store-turn : (rows' : List ℕ) → rows' ≡ put_word rows (slot * c + sc) (get_or new sc 0) → Stored w c slot count new rows₀ rows' (sc + 1)
    store-turn rows' put =
        let x : ℕ = get_or new sc 0 in
        let all₀ : List (List ℕ) = ring_rows w c rows₀ in
        let row₀ : List ℕ = get_or all₀ slot [] in
        let in-all₀ : slot < length all₀ = rw (length_cut w c (words rows₀)) in-ring in
        let row-long : length row₀ ≡ c = length-ring-row w c rows₀ whole₀ slot in-ring in
        record {
          within = omega arith;
          whole = rw put (length-put rows (slot * c + sc) x ∙ inv.whole);
          written =
              rw (put, ring-put w c rows inv.whole slot sc x in-ring (omega arith), inv.written)
              (rw (get_or-set_same all₀ slot (overwrite row₀ new sc) [] in-all₀, set-set all₀ slot)
              (ap (set all₀ slot) (overwrite-suc row₀ new sc (omega arith) (omega arith))));
        }

  -- all entries are written
  pub store-end : (rows : List ℕ) (sc : ℕ) → Stored w c slot count new rows₀ rows sc → count ≤ sc
      → ring_rows w c rows ≡ set (ring_rows w c rows₀) slot (overwrite (get_or (ring_rows w c rows₀) slot []) new count)
  store-end rows sc inv all =
      let e : sc ≡ count = omega (arith, inv.within) in
      rw (← e) inv.written
