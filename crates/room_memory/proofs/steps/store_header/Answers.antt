-- `room_memory::steps::store_header` meets its contract. Assumes nothing.
use Prim.Native.Nat.{ℕ, ◌-◌}
use mathlib.Core.Path.{◌≡◌, refl, sym, ap, ◌∙◌}
use mathlib.Core.List.{List, [], ◌++◌, append-nil, append_assoc, map-id}
use native.Mathlib.Omega.{arith}
use borrow.Author.Rules.{rules}
use mir.Syntax.{w32, w64}
use mir.Val.{Fits}
use lib.ListN.{get_or, take, drop}
use lib.Seq.{length-take-le, take_at}
use Rattle.num.proofs.Parts.{front-start, front-next}
use Rattle.num.proofs.Elements.{elem-signed}
use Rattle.room_memory.proofs.Whole.{Full, Ranged, stored_loaded}
use Rattle.room_memory.specs.Header.{settings_len, sum_at, state_at, small_bytes, column_bytes, state_bytes}
use Rattle.room_memory.proofs.steps.store_header.Goals as goal

-- what the parameter's types give; in f stands a fact a field, in the fields' order
module _ (c : goal.After-store_columns) where
  ranged : Ranged c.args.s
  ranged =
      let angles = c.well_formed.1.0.1.1.1.1.0.1.1.1.0.1.1 in
      let baseline = c.well_formed.1.0.1.1.1.1.1.1.1.0.1.1 in
      record {
        presence-wander = search rules;
        presence-motion = search rules;
        phase-wander = search rules;
        phase-motion = search rules;
        baseline-sum = search (rules, baseline.0);
        peak = search rules;
        a = search rules;
        b = search rules;
        sum = λ j. (let e : Fits w32 (get_or c.args.s.presence.sums.sum j 0) = search rules in e.fits);
        sumsq = λ j. (let e : Fits w64 (get_or c.args.s.presence.sums.sumsq j 0) = search rules in e.fits);
        cos = λ j. elem-signed {w = w32} c.args.s.phase.sums.cos angles.0.0 j (rw (map-id c.args.s.phase.sums.cos) angles.0.1.1);
        sin = λ j. elem-signed {w = w32} c.args.s.phase.sums.sin angles.1.0.0 j (rw (map-id c.args.s.phase.sums.sin) angles.1.0.1.1);
        breathing = λ j. (let e : Fits w32 (get_or c.args.s.breathing.acc j 0) = search rules in e.fits);
        heart = λ j. (let e : Fits w32 (get_or c.args.s.heart.acc j 0) = search rules in e.fits);
      }

  full : Full c.args.s
  full =
      record {
        sum = search rules;
        sumsq = search rules;
        cos = search rules;
        sin = search rules;
        breathing = search rules;
        heart = search rules;
      }

pub returns : goal.returns
unfolding state_bytes
returns c =
    let m = c.args.m.now in let s = c.args.s in let f₀ = front-start settings_len m (omega (arith, c.told-m)) in
    let small = small_bytes s in let columns = column_bytes s.presence.sums s.phase.sums s.breathing.acc s.heart.acc in
    let f₁ = front-next (sum_at - settings_len) small _ f₀ refl c.store_small.ensures in
    let front : take sum_at c.store_small.new.m ≡ take settings_len m ++ small = rw f₁.whole (take_at (take settings_len m ++ small) (drop sum_at m) sum_at f₁.long) in
    let e : c.store_columns.new.m ≡ take settings_len m ++ state_bytes s = c.store_columns.ensures ∙ rw front (append_assoc (take settings_len m) small columns) in
    record {
      m_after = e;
      m_after_2 = ap state_at (e ∙ ap (λ (l : List ℕ). take settings_len m ++ l) (sym (append-nil (state_bytes s)))) ∙ stored_loaded (take settings_len m) [] s (length-take-le settings_len m (omega (arith, c.told-m))) (full c) c.requires.small (ranged c);
      long = c.store_columns.array_long;
    }
