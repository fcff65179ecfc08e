-- The two walks over a frame's angles, on plain values: what is done, and the walk on from there. Assumes nothing.
use mathlib.Core.Path.{◌≡◌, refl, sym, ap, ◌∙◌}
use mathlib.Core.List.{List, [], ◌∷◌, ◌++◌, append-nil}
use Prim.Native.Nat.{ℕ, suc, ◌+◌, ◌-◌, ◌*◌, ◌≤◌, ◌<◌}
use native.Mathlib.Nat.{mul-le-mul}
use native.Mathlib.Numerals.{add-one}
use native.Mathlib.Omega.{arith}
use lib.IntN.{ℤ, pos, nat_abs, ◌+ℤ◌, ◌-ℤ◌, ◌*ℤ◌, +ℤ_idl, +ℤ_idr, +ℤ_assoc}
use lib.ListN.{length, get_or, take, drop, set, replicate, length-set, take-append-drop, drop_of_length-le}
use lib.Seq.{drop-cons}
use mir.Syntax.{w64}
use mir.Val.{SFits}
use Rattle.num.specs.Sum.{sum_z}
use Rattle.num.specs.Wrap.{wrap16}
use Rattle.num.proofs.Abs.{sfits-abs, abs-sfits, abs-add, abs-mul}
use Rattle.num.proofs.Fill.{put, rest-set}
use Rattle.num.proofs.Wrap.{wrap16-fits}
use Rattle.csi.specs.Layout.{max_subcarriers}
use Rattle.phase.specs.Line.{walk, unwrapped, weighted, slope_of, intercept_of, residual_of, residuals, phases_of, arc, SumsOf}

-- a step of at most half a turn
pub step-le : (at raw prev : ℤ) → nat_abs (at +ℤ wrap16 (raw -ℤ prev)) ≤ nat_abs at + arc
step-le at raw prev =
    let d = wrap16 (raw -ℤ prev) in
    omega (arith, abs-add at d, abs-sfits d (wrap16-fits (raw -ℤ prev)))

-- the angle at k and those after it; after the last, none
module _ (angles : List ℤ) (k : ℕ) where
  next : k < length angles → drop k angles ≡ get_or angles k (pos 0) ∷ drop (k + 1) angles
  next h = drop-cons angles k (pos 0) h ∙ rw (add-one k)

  done : length angles ≤ k → drop k angles ≡ []
  done h = drop_of_length-le angles {i = k} h

-- ---- the walk that sums up

pub record Summing (angles : List ℤ) (su sku at prev : ℤ) (k : ℕ) : Type 0 where
  pub within : k ≤ length angles
  pub place : nat_abs at ≤ arc * k
  pub sum : sum_z (unwrapped angles) ≡ su +ℤ sum_z (walk at prev (drop k angles))
  pub wsum : weighted 0 (unwrapped angles) ≡ sku +ℤ weighted k (walk at prev (drop k angles))
  pub su-small : nat_abs su ≤ arc * length angles * k
  pub sku-small : nat_abs sku ≤ max_subcarriers * (arc * length angles * k)

pub none-summed : (angles : List ℤ) → Summing angles (pos 0) (pos 0) (pos 0) (pos 0) 0
unfolding unwrapped
none-summed angles =
    record {
      within = omega arith;
      place = omega arith;
      sum = sym (+ℤ_idl (sum_z (unwrapped angles)));
      wsum = sym (+ℤ_idl (weighted 0 (unwrapped angles)));
      su-small = omega arith;
      sku-small = omega arith;
    }

-- what a turn of the loop gives, v being the next place
pub record Turn (angles : List ℤ) (su sku v raw : ℤ) (k : ℕ) : Type 0 where
  pub term : SFits w64 (pos k *ℤ v)
  pub su-fits : SFits w64 (su +ℤ v)
  pub sku-fits : SFits w64 (sku +ℤ pos k *ℤ v)
  pub summed : Summing angles (su +ℤ v) (sku +ℤ pos k *ℤ v) v raw (k + 1)

module _ {angles : List ℤ} {su sku at prev : ℤ} {k : ℕ} (w : Summing angles su sku at prev k) (h : k < length angles) (l : length angles ≤ max_subcarriers) where
  abbrev n : ℕ
  n = length angles

  abbrev raw : ℤ
  raw = get_or angles k (pos 0)

  abbrev v : ℤ
  v = at +ℤ wrap16 (raw -ℤ prev)

  place-le : nat_abs v ≤ arc * (k + 1)
  place-le = omega (arith, w.place, step-le at raw prev)

  v-le : nat_abs v ≤ arc * n
  v-le = omega (arith, place-le)

  term-le : nat_abs (pos k *ℤ v) ≤ max_subcarriers * (arc * n)
  term-le = omega (arith, abs-mul (pos k) v, mul-le-mul {n₁ = k} {n₂ = max_subcarriers} (omega arith) v-le)

  su-le : nat_abs (su +ℤ v) ≤ arc * n * (k + 1)
  su-le = omega (arith, abs-add su v, w.su-small, v-le)

  sku-le : nat_abs (sku +ℤ pos k *ℤ v) ≤ max_subcarriers * (arc * n * (k + 1))
  sku-le = omega (arith, abs-add sku (pos k *ℤ v), w.sku-small, term-le)

  room : n * (k + 1) ≤ max_subcarriers * max_subcarriers
  room = mul-le-mul {m₂ = max_subcarriers} l (omega arith)

  pub summed : Turn angles su sku v raw k
  unfolding sum_z weighted walk
  summed =
      let rest = walk v raw (drop (k + 1) angles) in let e = next angles k h in
      record {
        term = sfits-abs (pos k *ℤ v) (omega (arith, term-le));
        su-fits = sfits-abs (su +ℤ v) (omega (arith, su-le, room));
        sku-fits = sfits-abs (sku +ℤ pos k *ℤ v) (omega (arith, sku-le, room));
        summed = record {
          within = omega arith;
          place = place-le;
          sum = w.sum ∙ ap (λ xs. su +ℤ sum_z (walk at prev xs)) e ∙ sym (+ℤ_assoc su v (sum_z rest));
          wsum =
              w.wsum ∙ ap (λ xs. sku +ℤ weighted k (walk at prev xs)) e ∙ sym (+ℤ_assoc sku (pos k *ℤ v) (weighted (suc k) rest))
              ∙ ap (λ i. sku +ℤ pos k *ℤ v +ℤ weighted i rest) (sym (add-one k));
          su-small = su-le;
          sku-small = sku-le;
        };
      }

pub all-summed : {angles : List ℤ} {su sku at prev : ℤ} {k : ℕ} → Summing angles su sku at prev k → length angles ≤ k → SumsOf (unwrapped angles) (length angles) su sku
unfolding sum_z weighted walk
all-summed {angles} {su} {sku} {at} {prev} {k} w h =
    let e : k ≡ length angles = omega (arith, w.within) in let d = done angles k h in
    record {
      sum = sym (w.sum ∙ ap (λ xs. su +ℤ sum_z (walk at prev xs)) d ∙ +ℤ_idr su);
      wsum = sym (w.wsum ∙ ap (λ xs. sku +ℤ weighted k (walk at prev xs)) d ∙ +ℤ_idr sku);
      su-small = rw e at w.su-small;
      sku-small = rw e at w.sku-small;
    }

-- ---- the walk that takes the line off

pub record Leaving (slope icpt : ℤ) (angles out : List ℤ) (at prev : ℤ) (k : ℕ) : Type 0 where
  pub within : k ≤ length angles
  pub place : nat_abs at ≤ arc * k
  pub long : length out ≡ max_subcarriers
  pub split : residuals slope icpt 0 (unwrapped angles) ≡ take k out ++ residuals slope icpt k (walk at prev (drop k angles))
  pub rest : drop k out ≡ replicate (max_subcarriers - k) (pos 0)

pub none_left : (slope icpt : ℤ) (angles : List ℤ) → Leaving slope icpt angles (replicate max_subcarriers (pos 0)) (pos 0) (pos 0) 0
unfolding unwrapped
none_left slope icpt angles = record { within = omega arith; place = omega arith; long = refl; split = refl; rest = refl }

module _ {slope icpt : ℤ} {angles out : List ℤ} {at prev : ℤ} {k : ℕ} (w : Leaving slope icpt angles out at prev k) where
  abbrev on : ℤ
  on = at +ℤ wrap16 (get_or angles k (pos 0) -ℤ prev)

  pub one_left : k < length angles → length angles ≤ max_subcarriers
      → Leaving slope icpt angles (set out k (residual_of slope icpt k on)) on (get_or angles k (pos 0)) (k + 1)
  unfolding residuals walk
  one_left h l =
      let raw = get_or angles k (pos 0) in let r = residual_of slope icpt k on in
      let rest = walk on raw (drop (k + 1) angles) in
      record {
        within = omega arith;
        place = omega (arith, w.place, step-le at raw prev);
        long = length-set out k r ∙ w.long;
        split =
            w.split ∙ ap (λ xs. take k out ++ residuals slope icpt k (walk at prev xs)) (next angles k h)
            ∙ ap (λ i. take k out ++ (r ∷ residuals slope icpt i rest)) (sym (add-one k))
            ∙ put out k r (residuals slope icpt (k + 1) rest) (omega (arith, w.long));
        rest = rest-set out max_subcarriers k r (pos 0) (omega arith) w.rest;
      }

  pub all_left : length angles ≤ k → out ≡ residuals slope icpt 0 (unwrapped angles) ++ replicate (max_subcarriers - length angles) (pos 0)
  unfolding residuals walk
  all_left h =
      let e : k ≡ length angles = omega (arith, w.within) in
      sym (take-append-drop k out)
      ∙ ap (λ xs. xs ++ drop k out) (sym (w.split ∙ ap (λ xs. take k out ++ residuals slope icpt k (walk at prev xs)) (done angles k h) ∙ append-nil (take k out)))
      ∙ ap (λ xs. residuals slope icpt 0 (unwrapped angles) ++ xs) (w.rest ∙ ap (λ i. replicate (max_subcarriers - i) (pos 0)) e)

-- ---- both walks

pub put-together : (angles : List ℤ) (n : ℕ) (su sku slope icpt : ℤ) → n ≡ length angles → SumsOf (unwrapped angles) (length angles) su sku
    → slope ≡ slope_of n su sku → icpt ≡ intercept_of n su slope → residuals slope icpt 0 (unwrapped angles) ≡ phases_of angles
unfolding phases_of
put-together angles n su sku slope icpt el es ep ei = rw (← el, ← es.sum, ← es.wsum, ← ep, ← ei)
