-- `Padded::centre` meets its contract. Assumes nothing.
use mathlib.Core.Path.{◌≡◌, sym, ap, ◌∙◌}
use mathlib.Core.List.{map}
use native.Mathlib.Omega.{arith}
use borrow.Author.Rules.{sfits_of}
use lib.ListN.{length, take, drop}
use lib.Seq.{length-take-le, take_at}
use lib.IntN.{ℤ, ◌-ℤ◌}
use mir.Syntax.{w32}
use mir.Facts.{to_z-of_z}
use Rattle.vitals.specs.Series.{clamp16, mean_of, centred}
use Rattle.vitals.proofs.Padded.{put-zeros, put-samples, length-centred, centred-samples}
use Rattle.vitals.proofs.steps.padded.Padded.centre.Goals as goal

made : (c : goal.After-lower) → c.lower.new.x ≡ centred (take c.self.inside.n c.self.inside.room)
unfolding centred
made c =
    let x = take c.self.inside.n c.self.inside.room in c.lower.ensures
    ∙ ap (λ (m : ℤ). map (λ (v : ℤ). clamp16 (v -ℤ m)) x) (to_z-of_z {w = w32} (sfits_of c.mean-mean.type_inv) ∙ c.mean-mean.ensures.0 ∙ ap mean_of (c.series.ensures ∙ sym c.self.view_is))

long : (c : goal.After-lower) → length c.lower.new.x ≡ c.self.inside.n
long c =
    let n = c.self.inside.n in let room = c.self.inside.room in
    ap length (made c) ∙ length-centred (take n room) ∙ length-take-le n room (omega (arith, c.self.told, c.self.invariant.0))

pub invariant_of-self : goal.invariant_of-self
invariant_of-self c =
    let n = c.self.inside.n in let room = c.self.inside.room in let out = c.lower.new.x in
    (c.self.invariant.0, put-zeros n room out c.self.invariant.1 c.self.invariant.2 (long c), put-samples n room out c.self.invariant.1 c.self.invariant.2 (long c) (rw (made c) (centred-samples (take n room))))

pub returns : goal.returns
returns c = take_at c.lower.new.x (drop c.self.inside.n c.self.inside.room) c.self.inside.n (long c) ∙ made c ∙ ap centred c.self.view_is
