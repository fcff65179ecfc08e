-- What C sees of an answer: a refusal's number and zeros, or 0 and the counts.
use Rattle.std.specs.Prelude.{ℕ, List, Result, Ok, Err, replicate}
use Rattle.refusal.specs.declared.Refusal.{Refusal}
use Rattle.refusal.specs.Refusal.{number}
use Rattle.chance.specs.Chance.{event_counts}
use Rattle.chance_c.specs.declared.Chances.{Chances}

abbrev pub shown : Result (List ℕ) Refusal → Chances
shown (Ok counts) = record { refusal = 0; counts = counts }
shown (Err refusal) = record { refusal = number refusal; counts = replicate event_counts 0 }
