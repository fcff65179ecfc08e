-- What the tests of settings and state stand for. Assumes nothing.
use mathlib.Core.Path.{◌≡◌}
use mathlib.Core.Bool.{true}
use mathlib.Core.List.{List}
use Prim.Native.Nat.{ℕ, ◌*◌, ◌≤◌, ◌<◌}
use native.Mathlib.Decide.{dec_lt}
use native.Mathlib.Omega.{arith}
use borrow.Author.Tests.{leb-true, lt-ltb, le-ltb}
use lib.Dec.{leb, ltb, eqb}
use lib.ListN.{get_or}
use Rattle.num.specs.Tests.{Tells}
use Rattle.num.proofs.Logic.{both}
use Rattle.num.proofs.Tests.{tells-iff, tells_both, tells-le, tells-lt, tells-eq, tells-below}
use Rattle.window.specs.Window.{columns}
use Rattle.vitals.specs.Band.{usable}
use Rattle.vitals.specs.declared.config.VitalsConfig.{VitalsConfig}
use Rattle.estimator.specs.Estimator.{or_one}
use Rattle.estimator.specs.State.{legal, bounded, waiting, in_range}
use Rattle.estimator.specs.declared.Progress.{Progress}

pub record Legal (cfg : VitalsConfig) (n : ℕ) : Type 0 where
  pub least : 4 ≤ n
  pub most : n ≤ 512
  pub decim : cfg.decim ≤ 32767
  pub band : usable cfg.band cfg.rate_hz ≡ true

pub legal-facts : (cfg : VitalsConfig) (n : ℕ) → legal cfg n ≡ true → Legal cfg n
unfolding legal
legal-facts cfg n e =
    let one = both (leb 4 n) _ e in let two = both (leb n 512) _ one.1 in let three = both (leb cfg.decim 32767) _ two.1 in
    record { least = leb-true 4 n one.0; most = leb-true n 512 two.0; decim = leb-true cfg.decim 32767 three.0; band = three.1 }

-- no total is above what so many frames can give
abbrev pub Bounded : ℕ → List ℕ → Type 0
Bounded frames acc = (k : ℕ) → k < columns → get_or acc k 0 ≤ frames * 65535

pub bounded_tells : (frames : ℕ) (acc : List ℕ) → Tells (bounded frames acc) (Bounded frames acc)
bounded_tells frames acc =
    tells-below columns (λ k. leb (get_or acc k 0) (frames * 65535)) (λ k. get_or acc k 0 ≤ frames * 65535) (λ k. tells-le (get_or acc k 0) (frames * 65535))

-- the blocks since the last estimate
pub record Waiting (cfg : VitalsConfig) (n : ℕ) (p : Progress) : Type 0 where
  pub filling : p.filled < n → p.since_update ≡ p.filled
  pub full : n ≤ p.filled → p.since_update < or_one cfg.update_every

waiting-tells : (cfg : VitalsConfig) (n : ℕ) (p : Progress) → Tells (waiting cfg n p) (Waiting cfg n p)
waiting-tells cfg n p = go (dec_lt p.filled n)
  where
    go : Dec (p.filled < n) → Tells (waiting cfg n p) (Waiting cfg n p)
    go (yes h) =
        rw (lt-ltb p.filled n h)
        (tells-iff (eqb p.since_update p.filled) (λ e. record { filling = λ l. e; full = λ l. absurd (omega arith) }) (λ w. w.filling h) (tells-eq p.since_update p.filled))
    go (no f) =
        rw (le-ltb p.filled n (omega arith))
        (tells-iff (ltb p.since_update (or_one cfg.update_every)) (λ e. record { filling = λ l. absurd (f l); full = λ l. e }) (λ w. w.full (omega arith)) (tells-lt p.since_update (or_one cfg.update_every)))

pub record InRange (cfg : VitalsConfig) (n : ℕ) (p : Progress) (acc : List ℕ) : Type 0 where
  pub slot : p.next < n
  pub most : p.filled ≤ n
  pub narrow : p.count ≤ columns
  pub opened : p.acc_n < or_one cfg.decim
  pub totals : Bounded p.acc_n acc
  pub since : Waiting cfg n p

pub range-tells : (cfg : VitalsConfig) (n : ℕ) (p : Progress) (acc : List ℕ) → Tells (in_range cfg n p acc) (InRange cfg n p acc)
unfolding in_range
range-tells cfg n p acc =
    tells-iff _
    (λ h. record { slot = h.0; most = h.1.0; narrow = h.1.1.0; opened = h.1.1.1.0; totals = h.1.1.1.1.0; since = h.1.1.1.1.1 })
    (λ r. (r.slot, (r.most, (r.narrow, (r.opened, (r.totals, r.since))))))
    (tells_both _ _ (tells-lt p.next n)
    (tells_both _ _ (tells-le p.filled n)
    (tells_both _ _ (tells-le p.count columns)
    (tells_both _ _ (tells-lt p.acc_n (or_one cfg.decim))
    (tells_both _ _ (bounded_tells p.acc_n acc) (waiting-tells cfg n p))))))
