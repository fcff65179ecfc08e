-- The number of each reason to refuse a call (docs/SPEC.md, "Who causes which refusal"). Assumes nothing.
use Rattle.std.specs.Prelude.{ℕ, Result, Ok, Err, List, ◌++◌, codes, decimal}
use Rattle.refusal.specs.declared.Refusal.{Refusal}

abbrev pub number : Refusal → ℕ
number Refusal.Settings = 1
number Refusal.Memory = 2
number Refusal.Form = 3
number Refusal.Tag = 4
number Refusal.Iq = 5
number Refusal.Space = 6
number Refusal.Count = 7
number Refusal.Full = 8
number Refusal.Record = 9
number Refusal.Chance = 13

-- of an answer: 0 where it is not refused
abbrev pub answered_number : {A : Type 0} → Result A Refusal → ℕ
answered_number (Ok x) = 0
answered_number (Err refusal) = number refusal

-- how it prints
abbrev pub refused : Refusal → List ℕ
refused refusal = codes "refused " ++ decimal (number refusal)
