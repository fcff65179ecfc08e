-- The two round trips of the wire form (the customer's second demand): encoding and decoding undo each other on every legal record. Theorems in
-- proofs/RoundTrip.antt. Assumes nothing.
use Rattle.std.specs.Prelude.{Ok, ℕ, ◌+◌, ◌^◌, ◌≤◌, ◌<◌, ◌≡◌, true, List, ◌++◌, length, get_or, take, drop}
use Rattle.std.specs.Int.{w8}
use Rattle.std.proofs.Common.{SFits}
use Rattle.csi_stream.specs.declared.Sample.{Sample}
use Rattle.csi_stream.specs.Wire.{header_len, max_iq, sample_of}
use Rattle.csi_stream.specs.Codec.{legal, decode_of, encode_of, encode_into}

-- a sample with its I/Q bytes: the time has 64 bits, the strength is from -128 to 127, and the I/Q bytes are 128 at most
pub record Sendable (s : Sample) (iq : List ℕ) : Type 0 where
  pub time : s.at < 2 ^ 64
  pub strength : SFits w8 s.rssi
  pub few : length iq ≤ max_iq

-- encoded into this space it is written whole, and what was written decodes to the sample, with the I/Q bytes behind its header
pub record ComesBack (s : Sample) (iq out : List ℕ) : Type 0 where
  pub written : encode_of (length iq) (length out) ≡ Ok (header_len + length iq)
  pub sample : decode_of (take (header_len + length iq) (encode_into s iq out)) ≡ Ok (s, length iq)
  pub behind : drop header_len (take (header_len + length iq) (encode_into s iq out)) ≡ iq

abbrev pub EncodedDecodes : Type 0
EncodedDecodes = (s : Sample) (iq out : List ℕ) → Sendable s iq → header_len + length iq ≤ length out → ComesBack s iq out

-- the record decodes to a sample, and that sample encoded into this space with the record's I/Q bytes is the record, byte for byte, at its front
pub record WrittenAgain (r out : List ℕ) : Type 0 where
  pub accepted : decode_of r ≡ Ok (sample_of r, length (drop header_len r))
  pub written : encode_of (length (drop header_len r)) (length out) ≡ Ok (length r)
  pub bytes : encode_into (sample_of r) (drop header_len r) out ≡ r ++ drop (length r) out

abbrev pub DecodedEncodes : Type 0
DecodedEncodes = (r out : List ℕ) → ((i : ℕ) → get_or r i 0 < 256) → legal r ≡ true → length r ≤ length out → WrittenAgain r out
