-- `room_watch::steps::feed` meets its contract. Assumes nothing.
use mathlib.Core.Path.{◌≡◌, refl, sym, ap, subst}
use mathlib.Core.List.{List}
use Prim.Native.Nat.{ℕ, ◌≤◌, ◌<◌}
use native.Mathlib.Omega.{arith}
use Rattle.window.specs.Window.{columns}
use Rattle.csi.specs.declared.Features.{Features}
use Rattle.detector.specs.Detector.{Valid}
use Rattle.presence.specs.Presence.{presence_kind}
use Rattle.phase_detector.specs.Phase.{phase_kind}
use Rattle.room_state.specs.Rings.{Rings, rings_of}
use Rattle.fingerprint.specs.Baseline.{mean_of}
use Rattle.fingerprint.proofs.Ranges.{distance-le}
use Rattle.room_sensing.specs.Sensing.{bytes_refusal, features_in}
use Rattle.room_sensing.proofs.Judged.{ranged}
use Rattle.room_watch.proofs.Rings.{rings-joined, rings-cut, rows-long}
use Rattle.room_watch.proofs.Feeding.{fed, few-amplitudes, few-angles}
use Rattle.room_watch.proofs.steps.feed.Goals.{After-split_at_mut-breathing}
use Rattle.room_watch.proofs.steps.feed.Goals as goal

-- a row has room for the features of a sample that is not refused
few : (body : List ℕ) {f : Features} → f ≡ features_in body → bytes_refusal body ≡ 0 → f.count ≤ columns
few body e ok = subst (λ (x : Features). x.count ≤ columns) (sym e) (few-amplitudes body ok)

-- the rows, once they are cut
module _ (c : After-split_at_mut-breathing) where
  cut : rings_of c.args.settings.now.settings c.args.rows.now ≡ record { presence = c.split_at_mut-presence.result.0.now; phase = c.split_at_mut-phase.result.0.now; breathing = c.split_at_mut-breathing.result.0.now; heart = c.split_at_mut-breathing.result.1.now }
  cut =
      let e1 = c.split_at_mut-presence.ensures in
      let e2 = c.split_at_mut-phase.ensures in
      let e3 = c.split_at_mut-breathing.ensures in
      rings-cut c.args.settings.now.settings c.args.rows.now _ _ _ _ _ _ c.ring_len.result c.ring_len-2.result c.ring_len-3.result c.requires.0
      e1.value e2.value e3.value e1.front_len e2.front_len e3.front_len c.ring_len.ensures c.ring_len-2.ensures c.ring_len-3.ensures

-- a frame fits a window whose call says that it is less than the machine's words in size
small : 144 < 9223372036854775808
small = omega arith

pub push-verdict-requires : goal.push-verdict-requires
push-verdict-requires c =
    let s = c.args.s.now in (
      small,
      (
        rw c.from-w.ensures (subst (λ (l : List ℕ). Valid presence_kind c.args.settings.now.settings.w columns s.presence.state l s.presence.sums.sum s.presence.sums.sumsq) (ap (λ (x : Rings). x.presence) (cut (goal.at.push-verdict-requires c).After-split_at_mut-breathing)) c.requires.1.presence),
        rw c.frame-amplitudes.ensures (few c.args.sample.bytes.now c.features_in-features.ensures c.args.sample.fine),
      ),
    )

pub push-other-requires : goal.push-other-requires
push-other-requires c =
    let s = c.args.s.now in (
      small,
      (
        rw c.from-w.ensures (subst (λ (l : List ℕ). Valid phase_kind c.args.settings.now.settings.w columns s.phase.state l s.phase.sums.cos s.phase.sums.sin) (ap (λ (x : Rings). x.phase) (cut (goal.at.push-other-requires c).After-split_at_mut-breathing)) c.requires.1.phase),
        rw (c.frame-angles.ensures, c.phases_in-phases.ensures) (few-angles c.args.sample.bytes.now c.args.sample.fine),
      ),
    )

pub overflow_cast-result-2 : goal.overflow_cast-result-2
overflow_cast-result-2 c = omega (arith, distance-le (mean_of c.args.s.now.baseline) c.features_in-features.result.variance, c.distance.ensures)

pub returns : goal.returns
returns c =
    let σ = c.args.settings.now.settings in
    let body = c.args.sample.bytes.now in
    let p = c.push-verdict in
    let pe = rw (c.from-w.ensures, c.from-limits.ensures, c.frame-amplitudes.ensures) at p.ensures in
    let q = c.push-other in
    let qe = rw (c.from-w.ensures, c.from-limits-2.ensures, c.frame-angles.ensures) at q.ensures in
    let b = c.push-breath in
    let be = rw (c.frame-amplitudes.ensures, c.from-n.ensures) at b.ensures in
    let h = c.push-beat in
    let he = rw (c.frame-amplitudes.ensures, c.from-n.ensures) at h.ensures in
    let joined = rings-joined σ p.new.rows q.new.rows b.new.rows h.new.rows pe.valid.ring.whole qe.valid.ring.whole be.whole he.whole in
    fed σ c.args.s.now _ c.args.rows.now _ body _ _ c.features_in-features.result c.phases_in-phases.result c.args.sample.time p.result q.result b.result h.result c.step_fall.result _ c.distance.result
    c.features_in-features.ensures c.phases_in-phases.ensures c.args.sample.time_is (cut (goal.at.returns c).After-split_at_mut-breathing) joined
    (record { presence = pe; phase = qe; breathing = be; heart = he; falls = c.step_fall.ensures; tag = refl; baseline = refl })
    c.requires.1
    (rows-long σ c.args.rows.now _ _ _ _ _ _ p.new.rows q.new.rows b.new.rows h.new.rows
    c.split_at_mut-presence.ensures.value c.split_at_mut-phase.ensures.value c.split_at_mut-breathing.ensures.value p.auto.rows q.auto.rows b.auto.rows h.auto.rows)
    (rw (c.either.ensures, c.rate_of.ensures, c.rate_of-2.ensures))
    c.distance.ensures

-- what breathing and heart are pushed with is legal
pub invariant_of-plan : goal.invariant_of-plan
invariant_of-plan c = record { legal = rw c.from-n.ensures (ranged c.args.settings.now.settings c.args.settings.now.kept).breathing }

pub invariant_of-plan-2 : goal.invariant_of-plan-2
invariant_of-plan-2 c = record { legal = rw c.from-n.ensures (ranged c.args.settings.now.settings c.args.settings.now.kept).heart }
