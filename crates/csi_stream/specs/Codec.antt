-- What decoding and encoding answer, and what encoding leaves (`Sample::decode`, `Sample::iq`, `Sample::encode`). Refused: a malformed
-- sample, and too little space. Assumes nothing.
use Rattle.std.specs.Prelude.{Result, Ok, Err, ℕ, ◌+◌, ◌≡◌, List, [], ◌++◌, Bool, true, false, cond, ◌&&◌, length, get_or, drop, ltb, leb, eqb}
use Rattle.std.specs.Borrow.{Bor}
use Rattle.refusal.specs.Refusal.{number}
use Rattle.refusal.specs.declared.Refusal.{Refusal}
use Rattle.csi_stream.specs.declared.Sample.{Sample}
use Rattle.csi_stream.specs.declared.EncodeError.{EncodeError}
use Rattle.csi_stream.specs.Wire.{version, header_len, max_iq, encoded, sample_of}

-- a record that is one sample: a whole header, version 1, at most 128 I/Q bytes, and as many as byte 12 says
abbrev pub legal : List ℕ → Bool
legal r =
    leb header_len (length r)
    && (eqb (get_or r 0 0) version && (leb (get_or r 12 0) max_iq && eqb (length r) (header_len + get_or r 12 0)))

-- the number of the refusal (docs/SPEC.md, "Who causes which refusal"), 0 for none: of a record, and of n I/Q bytes that are to go into m
-- bytes of space. The sample is judged before the space
abbrev pub decode_refusal : List ℕ → ℕ
decode_refusal r = cond (legal r) 0 3

abbrev pub encode_refusal : (n m : ℕ) → ℕ
encode_refusal n m = cond (ltb max_iq n) 3 (cond (ltb m (header_len + n)) 6 0)

-- the sample, and how many I/Q bytes follow its header
unfoldable pub decode_of : List ℕ → Result (Sample × ℕ) Refusal
decode_of r = cond (legal r) (Ok (sample_of r, get_or r 12 0)) (Err Refusal.Form)

unfoldable pub record_check : List ℕ → Result (Unit {0}) Refusal
record_check r = cond (legal r) (Ok tt) (Err Refusal.Form)

-- r is the part of s from byte a on: it has those bytes, and lies where they lie, in the same block of memory and a bytes further on
pub record PartFrom (a : ℕ) (s r : Bor (List ℕ)) : Type 0 where
  pub bytes : r.now ≡ drop a s.now
  pub place : r.ref_ptr ≡ (s.ref_ptr.0, a + s.ref_ptr.1)

-- the I/Q of a record that decodes is its part behind the header; of any other there is none
pub record IqOf (s r : Bor (List ℕ)) : Type 0 where
  pub accepted : legal s.now ≡ true → PartFrom header_len s r
  pub refused : legal s.now ≡ false → r.now ≡ []

-- the bytes written
unfoldable pub encode_of : (n m : ℕ) → Result ℕ EncodeError
encode_of n m =
    cond (ltb max_iq n) (Err EncodeError.Form)
    (cond (ltb m (header_len + n)) (Err (EncodeError.Space (header_len + n))) (Ok (header_len + n)))

-- the space afterwards: the encoding and the old bytes past it, or, where it is refused, the old bytes
unfoldable pub encode_into : Sample → List ℕ → List ℕ → List ℕ
encode_into s iq out =
    cond (leb (length iq) max_iq && leb (header_len + length iq) (length out)) (encoded s iq ++ drop (header_len + length iq) out) out

-- ---- the reason of each error, and the number of an answer, 0 where nothing is refused
abbrev pub reason : EncodeError → Refusal
reason EncodeError.Form = Refusal.Form
reason (EncodeError.Space need) = Refusal.Space

abbrev pub encoded_number : Result ℕ EncodeError → ℕ
encoded_number (Ok total) = 0
encoded_number (Err e) = number (reason e)
