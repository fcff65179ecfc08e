-- `lags` meets its contract: the library rounds a quotient up as the definition does. Assumes nothing.
use mathlib.Core.Path.{◌≡◌, refl, sym, ◌∙◌}
use Prim.Native.Nat.{ℕ, ◌+◌, ◌-◌, ◌*◌, ◌/◌, ◌<◌, max}
use native.Mathlib.Nat.{div-eq_of_lt-le}
use native.Mathlib.Omega.{arith}
use Rattle.std.specs.Int.{div_ceil}
use Rattle.std.proofs.lemmas.Grind.{div_ceil_times}
use Rattle.vitals.proofs.Facts.{usable-facts}
use Rattle.vitals.proofs.steps.lags.Goals as goal

up : (a b : ℕ) → 0 < b → div_ceil a b ≡ (a + (b - 1)) / b
up a b h = sym (div-eq_of_lt-le b (omega (arith, div_ceil_times a b h)) (omega (arith, div_ceil_times a b h)))

pub returns : goal.returns
returns c =
    let u = usable-facts c.args.band c.args.rate_hz c.requires in
    let lo : c.max.result ≡ max 2 (c.args.rate_hz * 1000 / c.args.band.hi_mhz) = omega (arith, c.max.ensures) in
    let hi : c.div_ceil.result ≡ (c.args.rate_hz * 1000 + (c.args.band.lo_mhz - 1)) / c.args.band.lo_mhz =
    c.div_ceil.ensures ∙ up (c.args.rate_hz * 1000) c.args.band.lo_mhz u.low in
    rw (lo, hi) refl
