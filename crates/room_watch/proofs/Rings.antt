-- The rows cut into the four rings, and joined again. Assumes nothing.
use mathlib.Core.Path.{◌≡◌, sym, ap, ◌∙◌}
use mathlib.Core.List.{List, ◌++◌}
use Prim.Native.Nat.{ℕ, ◌+◌, ◌*◌}
use native.Mathlib.Omega.{arith}
use lib.ListN.{length, take, drop, length-append}
use lib.Seq.{take_at, drop_at, drop-drop, take_all}
use Rattle.estimator.specs.State.{ring_length}
use Rattle.room_sensing.specs.declared.settings.Settings.{Settings}
use Rattle.room_state.specs.Rings.{rows_length, rings_of}

module _ (σ : Settings) where
  abbrev r : ℕ
  r = ring_length σ.w

  abbrev q : ℕ
  q = ring_length σ.n

  -- the parts of which the rows are made are the rings
  pub rings-joined : (a b c d : List ℕ) → length a ≡ r → length b ≡ r → length c ≡ q → length d ≡ q
      → rings_of σ (a ++ (b ++ (c ++ d))) ≡ record { presence = a; phase = b; breathing = c; heart = d }
  rings-joined a b c d la lb lc ld =
      let X : List ℕ = a ++ (b ++ (c ++ d)) in
      let first : drop r X ≡ b ++ (c ++ d) = drop_at a (b ++ (c ++ d)) r la in
      let twice : 2 * r ≡ r + r = omega arith in
      let behind : drop (2 * r) X ≡ c ++ d =
      ap (λ (n : ℕ). drop n X) twice ∙ sym (drop-drop r r X) ∙ ap (λ (l : List ℕ). drop r l) first ∙ drop_at b (c ++ d) r lb
      in
      let last : drop (2 * r + q) X ≡ d = sym (drop-drop q (2 * r) X) ∙ ap (λ (l : List ℕ). drop q l) behind ∙ drop_at c d q lc in
      let e1 : take r X ≡ a = take_at a (b ++ (c ++ d)) r la in
      let e2 : take r (drop r X) ≡ b = ap (λ (l : List ℕ). take r l) first ∙ take_at b (c ++ d) r lb in
      let e3 : take q (drop (2 * r) X) ≡ c = ap (λ (l : List ℕ). take q l) behind ∙ take_at c d q lc in
      let e4 : take q (drop (2 * r + q) X) ≡ d = ap (λ (l : List ℕ). take q l) last ∙ take_all q d (omega arith) in
      λ i. record { presence = e1 i; phase = e2 i; breathing = e3 i; heart = e4 i }

  -- rows that are cut one ring after the other
  pub rings-cut : (rows a rest b rest₂ c d : List ℕ) (na nb nc : ℕ) → length rows ≡ rows_length σ → rows ≡ a ++ rest → rest ≡ b ++ rest₂ → rest₂ ≡ c ++ d
      → length a ≡ na → length b ≡ nb → length c ≡ nc → na ≡ r → nb ≡ r → nc ≡ q → rings_of σ rows ≡ record { presence = a; phase = b; breathing = c; heart = d }
  rings-cut rows a rest b rest₂ c d na nb nc whole e1 e2 e3 la lb lc ea eb ec =
      let e : rows ≡ a ++ (b ++ (c ++ d)) = e1 ∙ ap (λ (l : List ℕ). a ++ l) (e2 ∙ ap (λ (l : List ℕ). b ++ l) e3) in
      let l1 : length rows ≡ length a + length rest = ap length e1 ∙ length-append a rest in
      let l2 : length rest ≡ length b + length rest₂ = ap length e2 ∙ length-append b rest₂ in
      let l3 : length rest₂ ≡ length c + length d = ap length e3 ∙ length-append c d in
      ap (rings_of σ) e ∙ rings-joined a b c d (omega arith) (omega arith) (omega arith) (omega (arith, l1, l2, l3))

  -- rings that came back as long as they were lent are as long as the rows were
  pub rows-long : (rows a rest b rest₂ c d a' b' c' d' : List ℕ) → rows ≡ a ++ rest → rest ≡ b ++ rest₂ → rest₂ ≡ c ++ d
      → length a' ≡ length a → length b' ≡ length b → length c' ≡ length c → length d' ≡ length d → length (a' ++ (b' ++ (c' ++ d'))) ≡ length rows
  rows-long rows a rest b rest₂ c d a' b' c' d' e1 e2 e3 la lb lc ld =
      let l1 : length rows ≡ length a + length rest = ap length e1 ∙ length-append a rest in
      let l2 : length rest ≡ length b + length rest₂ = ap length e2 ∙ length-append b rest₂ in
      let l3 : length rest₂ ≡ length c + length d = ap length e3 ∙ length-append c d in
      simp length-append (omega (arith, l1, l2, l3))
