-- What the calls answer, and what they leave in the buffer.
--   fills xs out     the list at the front and its length, or 29 and nothing changes where it does not fit
--   decodes t out    the bytes of a text so, or 14 and nothing changes where it is not base64
--   encodes bs out   the text of a list of bytes so
use Rattle.std.specs.Prelude.{ℕ, cond, List, length, nat_le}
use Rattle.event.specs.Fronts.{front}
use Rattle.event.specs.Numbers.{Answer}
use Rattle.event.specs.Numbers.Answer.{did, refused}
use Rattle.base64_codec.specs.Texts.{accepted, decoded, encoded}

abbrev pub fills : List ℕ → List ℕ → Answer ℕ × List ℕ
fills xs out = cond (nat_le (length xs) (length out)) (did (length xs), front xs out) (refused 29, out)

abbrev pub decodes : List ℕ → List ℕ → Answer ℕ × List ℕ
decodes text out = cond (accepted text) (fills (decoded text) out) (refused 14, out)

abbrev pub encodes : List ℕ → List ℕ → Answer ℕ × List ℕ
encodes bytes out = fills (encoded bytes) out
