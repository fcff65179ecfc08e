-- Which entries of a sample's I/Q bytes carry data, by the layout tag (docs/SPEC.md, "The sample"; csi.rs, `Layout`). Assumes nothing.
use Rattle.std.specs.Prelude.{Option, Some, None, Result, Ok, Err, Bool, cond, not, ◌&&◌, List, [], ◌∷◌, ◌++◌, ℕ, zero, suc, ◌-◌, ◌*◌, ◌≤◌, leb, ltb, length, get_or}
use Rattle.num.specs.Limits as limits
use Rattle.refusal.specs.declared.Refusal.{Refusal}
use Rattle.csi.specs.declared.Layout.{Layout}

-- the most subcarriers that features hold
abbrev pub max_subcarriers : ℕ
max_subcarriers = limits.max_subcarriers

-- two ranges without their upper ends, of so many entries
abbrev pub layout : (start end start2 end2 entries : ℕ) → Layout
layout a b c d n = record { start = a; end = b; start2 = c; end2 = d; entries = n }

abbrev pub none : Layout
none = layout 0 0 0 0 0

-- the layouts of the tags, from 1 on
unfoldable pub layouts : List Layout
layouts = layout 1 27 38 64 64 ∷ layout 1 29 36 64 64 ∷ layout 4 32 33 61 64 ∷ layout 0 64 64 64 64 ∷ []

unfoldable pub known : ℕ → Bool
unfolding layouts
known tag = leb 1 tag && leb tag (length layouts)

-- the layout of a tag; any other tag has no entries
unfoldable pub layout_of : ℕ → Layout
unfolding layouts
layout_of tag = get_or (none ∷ layouts) tag none

-- the same where the tag is known
unfoldable pub layout_for : ℕ → Option Layout
unfolding known layout_of
layout_for tag = cond (known tag) (Some (layout_of tag)) None

-- n numbers from a on
unfoldable pub up_from : (a n : ℕ) → List ℕ
up_from a zero = []
up_from a (suc n) = a ∷ up_from (suc a) n

-- the entries in use, in order (`Layout::indices`)
unfoldable pub entries_of : Layout → List ℕ
unfolding up_from
entries_of l = up_from l.start (l.end - l.start) ++ up_from l.start2 (l.end2 - l.start2)

-- the I/Q bytes that a layout needs: two an entry
abbrev pub need_of : Layout → ℕ
need_of l = 2 * l.entries

-- 0 where so many I/Q bytes serve under this tag; 4 the tag is unknown; 5 there are too few bytes
unfoldable pub frame_refusal : (len tag : ℕ) → ℕ
unfolding known layout_of
frame_refusal len tag = cond (not (known tag)) 4 (cond (ltb len (need_of (layout_of tag))) 5 0)

-- the same by the reasons' names
unfoldable pub frame_check : (len tag : ℕ) → Result (Unit {0}) Refusal
unfolding known layout_of
frame_check len tag = cond (not (known tag)) (Err Refusal.Tag) (cond (ltb len (need_of (layout_of tag))) (Err Refusal.Iq) (Ok tt))

-- what holds of the layout of a known tag: its ranges go up, it uses 1 to 64 of its entries, of which there are 64 at most
pub record Usable (l : Layout) : Type 0 where
  pub some : 1 ≤ length (entries_of l)
  pub most : length (entries_of l) ≤ max_subcarriers
  pub up : l.start ≤ l.end
  pub up2 : l.start2 ≤ l.end2
  pub end : l.end ≤ l.entries
  pub end2 : l.end2 ≤ l.entries
  pub entries : l.entries ≤ max_subcarriers
