-- What a call answers C, as numbers. Assumes nothing.
use Rattle.std.specs.Prelude.{cond, List, ℕ, Result, Ok, Err}
use Rattle.refusal.specs.Refusal.{number}
use Rattle.refusal.specs.declared.Refusal.{Refusal}
use Rattle.room_sensing.specs.Settings.{settings_of, legal, memory_size}
use Rattle.room_c.specs.declared.MemoryLen.{MemoryLen}

-- what `room_memory_len` answers
abbrev pub memory_answer : List ℕ → MemoryLen
memory_answer bytes = cond (legal bytes) (record { refusal = 0; len = memory_size (settings_of bytes) }) (record { refusal = 1; len = 0 })

-- the numbers of a length, or of why there is none
abbrev pub memory_len_of : Result ℕ Refusal → MemoryLen
memory_len_of (Ok len) = record { refusal = 0; len = len }
memory_len_of (Err refusal) = record { refusal = number refusal; len = 0 }
