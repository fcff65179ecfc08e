-- The two round trips of the wire form, as specs/RoundTrip.antt states them. Assumes nothing.
use Prim.Native.Nat.{ℕ, ◌+◌, ◌^◌, ◌≤◌, ◌<◌}
use mathlib.Core.Path.{◌≡◌, refl, sym, ap, ◌∙◌}
use mathlib.Core.Bool.{true}
use mathlib.Core.List.{List, [], ◌∷◌, ◌++◌}
use native.Mathlib.Omega.{arith}
use borrow.Author.Tests.{le-leb, eq-eqb}
use lib.ListN.{length, get_or, take, drop, length-drop, take-append-drop}
use lib.Seq.{drop-cons, take_at}
use Rattle.num.specs.Words.{le_bytes, le_at}
use Rattle.num.specs.Wrap.{signed8}
use Rattle.num.proofs.Byte.{signed-byte, byte_signed}
use Rattle.num.proofs.Words.{le-le_bytes, le_bytes-le_at}
use Rattle.csi_stream.specs.declared.Sample.{Sample}
use Rattle.std.specs.Prelude.{Ok}
use Rattle.csi_stream.specs.Wire.{encoded, sample_of}
use Rattle.csi_stream.specs.Codec.{legal, decode_of, encode_into}
use Rattle.csi_stream.specs.RoundTrip.{Sendable, EncodedDecodes, DecodedEncodes}
use Rattle.csi_stream.proofs.Answers.{tests, accepted, written}

-- the time is read back
time-bytes : (s : Sample) (iq : List ℕ) → s.at < 2 ^ 64 → le_at (encoded s iq) 4 8 ≡ s.at
unfolding encoded
time-bytes s iq h = le-le_bytes 8 s.at h

-- a record's header, byte by byte but for the time, and what follows
front : (r : List ℕ) → 13 ≤ length r → get_or r 0 0 ∷ get_or r 1 0 ∷ get_or r 2 0 ∷ get_or r 3 0 ∷ take 8 (drop 4 r) ++ (get_or r 12 0 ∷ drop 13 r) ≡ r
front [] h = absurd (omega arith)
front (a ∷ []) h = absurd (omega arith)
front (a ∷ b ∷ []) h = absurd (omega arith)
front (a ∷ b ∷ c ∷ []) h = absurd (omega arith)
front (a ∷ b ∷ c ∷ d ∷ s) h =
    ap (λ (l : List ℕ). a ∷ b ∷ c ∷ d ∷ l) (ap (λ (l : List ℕ). take 8 s ++ l) (sym (drop-cons s 8 0 (omega arith))) ∙ take-append-drop 8 s)

-- ---- a sample encoded, then decoded
iq-encode : (s : Sample) (iq : List ℕ) → drop 13 (encoded s iq) ≡ iq
unfolding encoded
iq-encode s iq = refl

length-encode : (s : Sample) (iq : List ℕ) → length (encoded s iq) ≡ 13 + length iq
unfolding encoded
length-encode s iq = omega arith

is-legal : (s : Sample) (iq : List ℕ) → length iq ≤ 128 → legal (encoded s iq) ≡ true
unfolding encoded
is-legal s iq few = simp (le-leb 13 (length (encoded s iq)) (omega arith), le-leb (length iq) 128 few, eq-eqb (length (encoded s iq)) (13 + length iq) (length-encode s iq))

decode-encode : (s : Sample) (iq : List ℕ) → Sendable s iq → decode_of (encoded s iq) ≡ Ok (s, length iq)
unfolding encoded
decode-encode s iq f =
    sym (accepted (encoded s iq) s.at (length iq) s.rssi (is-legal s iq f.few) (sym (time-bytes s iq f.time)) (sym (signed-byte s.rssi f.strength)) refl)

pub encoded-decodes : EncodedDecodes
encoded-decodes s iq out f room =
    let w = written s iq out f.few room in
    let front : take (13 + length iq) (encode_into s iq out) ≡ encoded s iq =
    rw (← w.1) (take_at (encoded s iq) (drop (13 + length iq) out) (13 + length iq) (length-encode s iq)) in
    record { written = sym w.0; sample = rw front (decode-encode s iq f); behind = rw front (iq-encode s iq) }

-- ---- a record decoded, then encoded
-- a record whose bytes are these at 0 and 2, whose time has these bytes, and which ends so
abbrev with : (r : List ℕ) (v b : ℕ) (time rest : List ℕ) → List ℕ
with r v b time rest = v ∷ get_or r 1 0 ∷ b ∷ get_or r 3 0 ∷ (time ++ rest)

-- the I/Q bytes of a legal record are as many as byte 12 says
size : (r : List ℕ) → legal r ≡ true → length (drop 13 r) ≡ get_or r 12 0
size r e = omega (arith, length-drop 13 r, tests r e)

encode-legal : (r : List ℕ) → ((i : ℕ) → get_or r i 0 < 256) → legal r ≡ true → encoded (sample_of r) (drop 13 r) ≡ r
unfolding encoded
encode-legal r byte e =
    let t = tests r e in
    ap (λ (b : ℕ). with r 1 b (le_bytes 8 (le_at r 4 8)) (length (drop 13 r) ∷ drop 13 r)) (byte_signed (get_or r 2 0) (byte 2))
    ∙ ap (λ (l : List ℕ). with r 1 (get_or r 2 0) l (length (drop 13 r) ∷ drop 13 r)) (le_bytes-le_at r byte 4 8 (omega (arith, t.0)))
    ∙ ap (λ (n : ℕ). with r 1 (get_or r 2 0) (take 8 (drop 4 r)) (n ∷ drop 13 r)) (size r e)
    ∙ ap (λ (v : ℕ). with r v (get_or r 2 0) (take 8 (drop 4 r)) (get_or r 12 0 ∷ drop 13 r)) (sym t.1.0)
    ∙ front r t.0

pub decoded-encodes : DecodedEncodes
decoded-encodes r out byte e room =
    let t = tests r e in
    let n = size r e in
    let total : 13 + length (drop 13 r) ≡ length r = omega (arith, n, t) in
    let w = written (sample_of r) (drop 13 r) out (omega (arith, n, t)) (omega (arith, total, room)) in
    record {
      accepted = sym (accepted r (le_at r 4 8) (length (drop 13 r)) (signed8 (get_or r 2 0)) e refl refl n);
      written = sym w.0 ∙ ap Ok total;
      bytes = rw (← w.1, encode-legal r byte e, total);
    }
