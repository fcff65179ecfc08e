-- `room::memory::settings_in` meets its contract. Assumes nothing.
use Prim.Native.Nat.{ℕ, ◌+◌}
use mathlib.Core.Path.{◌≡◌, refl, sym, ap, ◌∙◌}
use mathlib.Core.Bool.{Bool, true, false, cond, ◌&&◌}
use mathlib.Core.List.{List, ◌++◌}
use native.Mathlib.Omega.{arith}
use borrow.Author.Tests.{eq-eqb, eqb-true}
use lib.Dec.{eqb}
use lib.ListN.{length, take, length-append}
use lib.Seq.{take-append-le}
use Rattle.std.specs.Result.{result_map_both}
use Rattle.std.specs.Prelude.{Result, Ok, Err}
use Rattle.refusal.specs.declared.Refusal.{Refusal}
use Rattle.room_memory.specs.Header.{settings_len, header_len}
use Rattle.room_sensing.specs.Settings.{legal, settings_of, settings_read, memory_size}
use Rattle.room_sensing.specs.declared.settings.InRange.{InRange}
use Rattle.room_sensing.specs.declared.settings.Settings.{Settings}
use Rattle.room.specs.Steps.{settings_read_in}
use Rattle.room.proofs.memory.settings_in.Goals as goal

-- what reading the settings says of their bytes
legal-read : (b : Bool) (σ τ : Settings) (r : Result Settings Refusal) → r ≡ cond b (Ok τ) (Err Refusal.Settings) → r ≡ Ok σ → (b ≡ true) × (σ ≡ τ)
legal-read true σ τ r h is = let same : Ok σ ≡ Ok τ = sym is ∙ h in (refl, cc)
legal-read false σ τ r h is = let z : Ok σ ≡ Err Refusal.Settings = sym is ∙ h in absurd (let no : ◌≡◌ {A = ℕ} 0 1 = cc in omega arith)

unread : (b : Bool) (τ : Settings) (r : Result Settings Refusal) (e : Refusal) → r ≡ cond b (Ok τ) (Err Refusal.Settings) → r ≡ Err e → b ≡ false
unread true τ r e h is = let z : Ok τ ≡ Err e = sym h ∙ is in absurd (let no : ◌≡◌ {A = ℕ} 0 1 = cc in omega arith)
unread false τ r e h is = refl

module _ (h rows : List ℕ) (long : length h ≡ header_len) where
  front : take settings_len (h ++ rows) ≡ take settings_len h
  front = take-append-le settings_len h rows (omega (arith, long))

  module _ (r : Result Settings Refusal) (reads : r ≡ settings_read (take settings_len h)) where
    sized : (σ : Settings) → r ≡ Ok σ → header_len + length rows ≡ memory_size σ → Ok σ ≡ settings_read_in (h ++ rows)
    sized σ is fits =
        let p = legal-read (legal (take settings_len h)) σ (settings_of (take settings_len h)) r reads is in
        let e : length (h ++ rows) ≡ memory_size (settings_of (take settings_len h)) = length-append h rows ∙ rw long fits ∙ ap memory_size p.1 in
        rw (front, p.0, eq-eqb (length (h ++ rows)) (memory_size (settings_of (take settings_len h))) e) (ap Ok p.1)

    other : (σ : Settings) → r ≡ Ok σ → (header_len + length rows ≡ memory_size σ → ⊥) → Err Refusal.Memory ≡ settings_read_in (h ++ rows)
    other σ is differs =
        let p = legal-read (legal (take settings_len h)) σ (settings_of (take settings_len h)) r reads is in
        rw (front, p.0, go (eqb (length (h ++ rows)) (memory_size (settings_of (take settings_len h)))) refl p.1)
      where
        go : (b : Bool) → eqb (length (h ++ rows)) (memory_size (settings_of (take settings_len h))) ≡ b → σ ≡ settings_of (take settings_len h)
            → eqb (length (h ++ rows)) (memory_size (settings_of (take settings_len h))) ≡ false
        go true t same = absurd (differs (rw (sym long) (sym (length-append h rows)) ∙ eqb-true (length (h ++ rows)) (memory_size (settings_of (take settings_len h))) t ∙ ap memory_size (sym same)))
        go false t same = t

    refused : (e : Refusal) → r ≡ Err e → Err Refusal.Memory ≡ settings_read_in (h ++ rows)
    refused e is = rw (front, unread (legal (take settings_len h)) (settings_of (take settings_len h)) r e reads is)

pub returns-in-Ok : goal.returns-in-Ok
returns-in-Ok c =
    let σ = c.in-Ok.read.settings in sized c.args.header.now c.args.rows.now c.told-header (Ok σ) c.in-Ok.ensures σ refl (c.if-rows-memory_len.true ∙ c.memory_len.ensures)

pub returns-in_default : goal.returns-in_default
returns-in_default c =
    let σ = c.in-Ok.read.settings in other c.args.header.now c.args.rows.now c.told-header (Ok σ) c.in-Ok.ensures σ refl (λ e. omega (arith, c.if-rows-memory_len.false, c.memory_len.ensures, e))

pub returns-in_default-2 : goal.returns-in_default-2
returns-in_default-2 c =
    let read : Err c.in_default.field-0 ≡ settings_read (take settings_len c.args.header.now) = sym (ap (result_map_both (λ (s : InRange). s.settings) (λ (e : Refusal). e)) c.in_default.is) ∙ c.try_from.ensures in
    refused c.args.header.now c.args.rows.now c.told-header (Err c.in_default.field-0) read c.in_default.field-0 refl
