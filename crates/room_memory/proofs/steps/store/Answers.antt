-- `room_memory::steps::store` meets its contract. Assumes nothing.
use mathlib.Core.Path.{ap, ◌∙◌}
use mathlib.Core.List.{List, ◌++◌, append_assoc}
use Prim.Native.Nat.{ℕ}
use native.Mathlib.Omega.{arith}
use lib.ListN.{take, drop}
use Rattle.std.proofs.lemmas.List.{take-take}
use Rattle.room_memory.proofs.Front.{state-front}
use Rattle.room_memory.specs.Header.{settings_len, header_len, state_bytes}
use Rattle.room_memory.proofs.steps.store.Goals as goal

pub returns-in-Some : goal.returns-in-Some
returns-in-Some c =
    let m = c.args.m.now in let s = c.args.s in let rest = drop header_len m in let k = c.in-Some.ensures.cases in
    record {
      m_after =
          ap (λ (l : List ℕ). l ++ rest) (c.store_header.ensures.m_after ∙ ap (λ (l : List ℕ). take settings_len l ++ state_bytes s) k.same)
          ∙ append_assoc (take settings_len (take header_len m)) (state_bytes s) rest
          ∙ ap (λ (l : List ℕ). l ++ (state_bytes s ++ rest)) (take-take settings_len header_len m (omega arith));
      m_after_2 = state-front c.store_header.new.m rest (omega (arith, c.store_header.ensures.long)) ∙ c.store_header.ensures.m_after_2;
    }

pub returns-in_default : goal.returns-in_default
returns-in_default c = absurd (omega (arith, c.in_default.ensures.cases, c.requires.header_len_in_bounds))
