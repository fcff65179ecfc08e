-- The values that go with an answer's number: what is decoded, and the bytes written or needed. Assumes nothing.
use Rattle.std.specs.Prelude.{Result, Ok, Err, ℕ, ℤ}
use Rattle.refusal.specs.declared.Refusal.{Refusal}
use Rattle.csi_stream.specs.declared.Sample.{Sample}
use Rattle.csi_stream.specs.declared.EncodeError.{EncodeError}

abbrev pub sample_from : ℕ → ℤ → ℕ → ℕ → Sample
sample_from at rssi channel layout = record { at = at; rssi = rssi; channel = channel; layout = layout }

-- the sample, or what stood there before
abbrev pub decoded_sample : Result (Sample × ℕ) Refusal → Sample → Sample
decoded_sample (Ok (s, n)) old = s
decoded_sample (Err reason) old = old

abbrev pub decoded_len : Result (Sample × ℕ) Refusal → ℕ → ℕ
decoded_len (Ok (s, n)) old = n
decoded_len (Err reason) old = old

-- the bytes written, or the space needed
abbrev pub encoded_value : Result ℕ EncodeError → ℕ
encoded_value (Ok total) = total
encoded_value (Err EncodeError.Form) = 0
encoded_value (Err (EncodeError.Space need)) = need
