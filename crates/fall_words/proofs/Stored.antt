-- Storing and loading undo each other. Assumes nothing.
--     load_store     a state's words stand for it
--     store-load     legal words are those of the state that they stand for
--     legal-words    a state's words are legal
--     loaded-legal   legal words load the state that they stand for
use mathlib.Core.Path.{◌≡◌, refl}
use mathlib.Core.Bool.{true}
use Prim.Native.Nat.{ℕ}
use lib.Dec.{eqb}
use borrow.Author.Tests.{eqb-true, eq-eqb}
use Rattle.std.specs.Prelude.{Some, None, Ok}
use Rattle.std.proofs.lemmas.Bool.{and_parts}
use Rattle.fall.specs.declared.Phase.{Phase}
use Rattle.fall.specs.declared.Phase.TheVariants.{Idle, Active, Burst, Settling, Refractory}
use Rattle.fall_words.specs.declared.Words.{Words}
use Rattle.fall_words.specs.Stored.{words_of, phase_of, legal, same_words, loaded}

pub load_store : (p : Phase) → phase_of (words_of p) ≡ p
unfolding words_of phase_of
load_store Idle = refl
load_store (Active s None) = refl
load_store (Active s (Some q)) = refl
load_store (Burst a p) = refl
load_store (Settling b p s) = refl
load_store (Refractory u) = refl

-- words of the same numbers are the same
same : (v w : Words) → same_words v w ≡ true → v ≡ w
same v w h =
    let t = and_parts _ _ h in
    let p = and_parts _ _ t.1 in
    let a = and_parts _ _ p.1 in
    let et : v.tag ≡ w.tag = eqb-true _ _ t.0 in
    let ep : v.peak ≡ w.peak = eqb-true _ _ p.0 in
    let ea : v.a ≡ w.a = eqb-true _ _ a.0 in
    let eb : v.b ≡ w.b = eqb-true _ _ a.1 in
    λ i. record { tag = et i; peak = ep i; a = ea i; b = eb i }

pub store-load : (w : Words) → legal w ≡ true → words_of (phase_of w) ≡ w
unfolding legal
store-load w h = same (words_of (phase_of w)) w h

pub legal-words : (p : Phase) → legal (words_of p) ≡ true
unfolding legal
legal-words p = let alike : (n : ℕ) → eqb n n ≡ true = λ n. eq-eqb n n refl in simp (load_store, alike)

pub loaded-legal : (w : Words) → legal w ≡ true → loaded w ≡ Ok (phase_of w)
loaded-legal w h = rw h refl
