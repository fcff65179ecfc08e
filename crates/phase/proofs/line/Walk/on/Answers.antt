-- `phase::line::Walk::on` meets its contract: the wrapped difference is the shortest arc. Assumes nothing.
use Rattle.std.proofs.Common.{rules, ◌≡◌, ◌-ℤ◌}
use Rattle.std.proofs.lemmas.Int.{wrapping_sub_onto}
use Rattle.num.specs.Wrap.{wrap16}
use Rattle.num.proofs.Cast.{int_wrap-is}
use Rattle.phase.proofs.line.Walk.on.Goals as goal

pub returns : goal.returns
returns c =
    let e : c.from.result ≡ wrap16 (c.args.angle -ℤ c.args.self.angle) = search (rules, wrapping_sub_onto, int_wrap-is) in
    search rules
