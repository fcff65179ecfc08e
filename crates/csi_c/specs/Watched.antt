-- Features and the same divided by their mean, in one. Assumes nothing.
use Rattle.std.specs.Prelude.{List, ℕ, Result}
use Rattle.std.specs.Result.{result_map_both}
use Rattle.refusal.specs.declared.Refusal.{Refusal}
use Rattle.csi.specs.Features.{features_answer, normalised_of}
use Rattle.csi.specs.declared.Features.{Features}

abbrev pub watched_answer : List ℕ → (tag : ℕ) → Result Features Refusal
watched_answer iq tag = result_map_both normalised_of (λ e. e) (features_answer iq tag)
