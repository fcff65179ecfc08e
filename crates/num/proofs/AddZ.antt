-- Sums of signed numbers, beside what `lib.IntN` has: terms exchanged, taken off and put back. Assumes nothing.
use mathlib.Core.Path.{◌≡◌, sym, ap, ◌∙◌}
use lib.IntN.{ℤ, neg_ℤ, ◌+ℤ◌, ◌-ℤ◌, +ℤ_assoc, +ℤ_comm, +ℤ_invl, +ℤ_idl, -ℤ-+ℤ_cancel}

pub +ℤ-left-comm : (a b c : ℤ) → a +ℤ (b +ℤ c) ≡ b +ℤ (a +ℤ c)
+ℤ-left-comm a b c = sym (+ℤ_assoc a b c) ∙ ap (λ (z : ℤ). z +ℤ c) (+ℤ_comm a b) ∙ +ℤ_assoc b a c

pub +ℤ-left-cancel : (a x y : ℤ) → a +ℤ x ≡ a +ℤ y → x ≡ y
+ℤ-left-cancel a x y e = sym (back x) ∙ ap (λ (z : ℤ). neg_ℤ a +ℤ z) e ∙ back y
  where
    back : (z : ℤ) → neg_ℤ a +ℤ (a +ℤ z) ≡ z
    back z = sym (+ℤ_assoc (neg_ℤ a) a z) ∙ ap (λ (n : ℤ). n +ℤ z) (+ℤ_invl a) ∙ +ℤ_idl z

-- a sum with one term less and one more: with the old term put back it is the sum with the new one
pub term-replaced : (sum old new : ℤ) → old +ℤ (sum -ℤ old +ℤ new) ≡ new +ℤ sum
term-replaced sum old new =
    +ℤ-left-comm old (sum -ℤ old) new ∙ ap (λ (z : ℤ). sum -ℤ old +ℤ z) (+ℤ_comm old new)
    ∙ +ℤ-left-comm (sum -ℤ old) new old ∙ ap (λ (z : ℤ). new +ℤ z) (-ℤ-+ℤ_cancel sum old)
