-- Each step of the line's arithmetic fits 64 bits, from the sizes of what goes in. Assumes nothing.
use mathlib.Core.Path.{◌≡◌}
use Prim.Native.Nat.{ℕ, ◌-◌, ◌*◌, ◌/◌, ◌≤◌, ◌<◌}
use native.Mathlib.Nat.{div-le_of_le-mul, mul-le-mul, mul-le-mul_left}
use native.Mathlib.Omega.{arith}
use lib.IntN.{ℤ, pos, nat_abs, ◌-ℤ◌, ◌*ℤ◌}
use mir.Syntax.{w64}
use mir.Val.{SFits}
use Rattle.csi.specs.Layout.{max_subcarriers}
use Rattle.num.proofs.Abs.{sfits-abs, abs-sub, abs-mul, abs-quot, abs-quot-le}
use Rattle.phase.specs.Line.{sum_k, denominator, slope_of, intercept_of, one, arc, place_most, steepest, slope_most, intercept_most}
use Rattle.phase.proofs.Sizes.{sum_k-le, steep}

-- Σk
abbrev most_k : ℕ
most_k = max_subcarriers * (max_subcarriers - 1) / 2

-- ---- the slope

pub record SlopeFits (n : ℕ) (su sku : ℤ) : Type 0 where
  pub left : SFits w64 (pos n *ℤ sku)
  pub right : SFits w64 (pos (sum_k n) *ℤ su)
  pub diff : SFits w64 (pos n *ℤ sku -ℤ pos (sum_k n) *ℤ su)
  pub scaled : SFits w64 ((pos n *ℤ sku -ℤ pos (sum_k n) *ℤ su) *ℤ pos one)
  pub small : nat_abs (slope_of n su sku) ≤ slope_most

pub slope-fits : (n : ℕ) (su sku : ℤ) → 2 ≤ n → n ≤ max_subcarriers → nat_abs su ≤ arc * n * n → nat_abs sku ≤ max_subcarriers * (arc * n * n) → SlopeFits n su sku
unfolding slope_of
slope-fits n su sku h2 hn hu hk =
    let a = pos n *ℤ sku in let b = pos (sum_k n) *ℤ su in let d = a -ℤ b in
    let ea : nat_abs a ≡ n * nat_abs sku = abs-mul (pos n) sku in
    let eb : nat_abs b ≡ sum_k n * nat_abs su = abs-mul (pos (sum_k n)) su in
    let ed : nat_abs (d *ℤ pos one) ≡ nat_abs d * one = abs-mul d (pos one) in
    let la : n * nat_abs sku ≤ n * (max_subcarriers * (arc * n * n)) = mul-le-mul_left n hk in
    let lb : sum_k n * nat_abs su ≤ sum_k n * (arc * n * n) = mul-le-mul_left (sum_k n) hu in
    let ln : n * n ≤ max_subcarriers * max_subcarriers = mul-le-mul hn hn in
    let l3 : n * n * n ≤ max_subcarriers * max_subcarriers * max_subcarriers = mul-le-mul ln hn in
    let ls : sum_k n * (n * n) ≤ most_k * (max_subcarriers * max_subcarriers) = mul-le-mul (sum_k-le n hn) ln in
    let lc = abs-sub a b in let st = steep n h2 hn in
    let lq : nat_abs (d *ℤ pos one) / denominator n ≤ steepest * (arc * one) = div-le_of_le-mul (denominator n) (omega arith) in
    let eq = abs-quot (d *ℤ pos one) (pos (denominator n)) in
    record {
      left = sfits-abs a (omega arith);
      right = sfits-abs b (omega arith);
      diff = sfits-abs d (omega arith);
      scaled = sfits-abs (d *ℤ pos one) (omega arith);
      small = omega arith;
    }

-- ---- the intercept

pub record InterceptFits (n : ℕ) (su slope : ℤ) : Type 0 where
  pub scaled : SFits w64 (su *ℤ pos one)
  pub rise : SFits w64 (slope *ℤ pos (sum_k n))
  pub less : SFits w64 (su *ℤ pos one -ℤ slope *ℤ pos (sum_k n))
  pub small : nat_abs (intercept_of n su slope) ≤ intercept_most

pub intercept-fits : (n : ℕ) (su slope : ℤ) → n ≤ max_subcarriers → nat_abs su ≤ arc * n * n → nat_abs slope ≤ slope_most → InterceptFits n su slope
unfolding intercept_of
intercept-fits n su slope hn hu hs =
    let a = su *ℤ pos one in let b = slope *ℤ pos (sum_k n) in
    let ea : nat_abs a ≡ nat_abs su * one = abs-mul su (pos one) in
    let eb : nat_abs b ≡ nat_abs slope * sum_k n = abs-mul slope (pos (sum_k n)) in
    let lb : nat_abs slope * sum_k n ≤ slope_most * most_k = mul-le-mul hs (sum_k-le n hn) in
    let ln : n * n ≤ max_subcarriers * max_subcarriers = mul-le-mul hn hn in
    let lc = abs-sub a b in let ld = abs-quot-le (a -ℤ b) (pos n) in
    record {
      scaled = sfits-abs a (omega arith);
      rise = sfits-abs b (omega arith);
      less = sfits-abs (a -ℤ b) (omega arith);
      small = omega arith;
    }

-- ---- what is left of a place

pub record ResidualFits (v : ℤ) (k : ℕ) (slope icpt : ℤ) : Type 0 where
  pub scaled : SFits w64 (v *ℤ pos one)
  pub rise : SFits w64 (slope *ℤ pos k)
  pub less : SFits w64 (v *ℤ pos one -ℤ slope *ℤ pos k)
  pub whole : SFits w64 (v *ℤ pos one -ℤ slope *ℤ pos k -ℤ icpt)

pub residual-fits : (v : ℤ) (k : ℕ) (slope icpt : ℤ) → nat_abs v ≤ place_most → k < max_subcarriers → nat_abs slope ≤ slope_most → nat_abs icpt ≤ intercept_most → ResidualFits v k slope icpt
residual-fits v k slope icpt hv hk hs hi =
    let a = v *ℤ pos one in let b = slope *ℤ pos k in
    let ea : nat_abs a ≡ nat_abs v * one = abs-mul v (pos one) in
    let eb : nat_abs b ≡ nat_abs slope * k = abs-mul slope (pos k) in
    let lb : nat_abs slope * k ≤ slope_most * max_subcarriers = mul-le-mul {m₂ = max_subcarriers} hs (omega arith) in
    let lc = abs-sub a b in let ld = abs-sub (a -ℤ b) icpt in
    record {
      scaled = sfits-abs a (omega arith);
      rise = sfits-abs b (omega arith);
      less = sfits-abs (a -ℤ b) (omega arith);
      whole = sfits-abs (a -ℤ b -ℤ icpt) (omega arith);
    }
