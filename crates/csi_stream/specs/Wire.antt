-- The wire form of a sample, version 1 (docs/SPEC.md, "The sample"): byte 0 the version, 1 the layout tag, 2 the signal strength, 3 the channel,
-- 4 to 11 the time, low byte first, 12 the number of I/Q bytes, which follow. Assumes nothing.
use Rattle.std.specs.Prelude.{ℕ, List, [], ◌∷◌, ◌++◌, length, get_or, drop}
use Rattle.num.specs.Words.{le_bytes, le_at}
use Rattle.num.specs.Wrap.{mod_z, signed8}
use Rattle.csi_stream.specs.declared.Sample.{Sample}

-- the version, the bytes before the I/Q, and the most bytes of I/Q
abbrev pub version : ℕ
version = 1

abbrev pub header_len : ℕ
header_len = 13

abbrev pub max_iq : ℕ
max_iq = 128

-- the header before n I/Q bytes
abbrev pub header_bytes : Sample → ℕ → List ℕ
header_bytes s n = version ∷ s.layout ∷ mod_z s.rssi 256 ∷ s.channel ∷ le_bytes 8 s.at ++ (n ∷ [])

-- the sample and its I/Q bytes, as bytes
unfoldable pub encoded : Sample → List ℕ → List ℕ
encoded s iq = header_bytes s (length iq) ++ iq

-- the I/Q bytes of a record: those behind its header
abbrev pub iq_of : List ℕ → List ℕ
iq_of r = drop header_len r

-- the sample that a record's header holds
abbrev pub sample_of : List ℕ → Sample
sample_of r =
    record {
      at = le_at r 4 8;
      rssi = signed8 (get_or r 2 0);
      channel = get_or r 3 0;
      layout = get_or r 1 0;
    }
