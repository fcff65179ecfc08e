-- `room::memory::begin` meets its contract. Assumes nothing.
use Prim.Native.Nat.{ℕ, ◌≤◌}
use mathlib.Core.Path.{◌≡◌, sym, ap, ◌∙◌}
use mathlib.Core.List.{List, ◌++◌, append_assoc}
use native.Mathlib.Omega.{arith}
use lib.ListN.{length, take, drop, replicate, take-append-drop}
use lib.Seq.{drop-append-le, length-take-le}
use Rattle.room_memory.specs.Header.{settings_len, header_len}
use Rattle.room_sensing.specs.Settings.{settings_of, memory_size}
use Rattle.room_sensing.proofs.Judged.{legal-long, legal-ranges, ranged}
use Rattle.room_state.proofs.New.{begun-memory, begin-long}
use Rattle.room.proofs.Cut.{stored}
use Rattle.room.proofs.memory.begin.Goals as goal

-- the settings put at the front of a header are put at the memory's
settings-put : (g z : List ℕ) → length g ≡ settings_len → header_len ≤ length z → (g ++ drop settings_len (take header_len z)) ++ drop header_len z ≡ g ++ drop settings_len z
settings-put g z long room =
    append_assoc g (drop settings_len (take header_len z)) (drop header_len z)
    ∙ ap (λ (l : List ℕ). g ++ l) (
    sym (drop-append-le settings_len (take header_len z) (drop header_len z) (omega (arith, length-take-le header_len z room))) ∙ ap (drop settings_len) (take-append-drop header_len z)
    )

pub put-requires : goal.put-requires
put-requires c =
    let k = c.in-Some.ensures.cases in
    omega (arith, legal-long c.args.given.now c.requires.given.0, ap length k.same, length-take-le header_len c.clear.new.rows k.enough)

pub fresh-requires : goal.fresh-requires
fresh-requires c = let g = c.args.given.now in rw c.requires.w_value (ranged (settings_of g) (legal-ranges g c.requires.given.0)).window.small

pub returns-in-Some : goal.returns-in-Some
returns-in-Some c =
    let g = c.args.given.now in let z = c.clear.new.rows in let k = c.in-Some.ensures.cases in let σ = settings_of g in
    let long = legal-long g c.requires.given.0 in
    let zeros : z ≡ replicate (memory_size σ) 0 = c.clear.ensures ∙ ap (λ (n : ℕ). replicate n 0) c.requires.given.1 in
    let put : c.put.new.dst ≡ g ++ drop settings_len (take header_len z) = c.put.ensures ∙ (λ i. g ++ drop (long i) (k.same i)) in
    let whole : length c.put.new.dst ≡ header_len = c.put.auto.dst ∙ ap length k.same ∙ length-take-le header_len z k.enough in
    begun-memory g (c.put.new.dst ++ drop header_len z) _ c.requires.given.0
    (ap (λ (l : List ℕ). l ++ drop header_len z) put ∙ settings-put g z long k.enough ∙ ap (λ (l : List ℕ). g ++ drop settings_len l) zeros)
    (stored c.put.new.dst c.store_header.new.m (drop header_len z) c.fresh.result whole (c.store_header.ensures.long ∙ sym whole) c.store_header.ensures.m_after ∙ rw (c.fresh.ensures, c.requires.w_value))

pub returns-in_default : goal.returns-in_default
returns-in_default c = absurd (omega (arith, c.in_default.ensures.cases, begin-long c.args.given.now (length c.args.memory.now) c.requires.given.1, c.clear.auto.rows))
