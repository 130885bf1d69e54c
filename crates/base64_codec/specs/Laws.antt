-- What encoding and decoding are to each other.
--   Byte b       a number of eight bits
--   Undone bs    the text of some bytes is base64, and decoding it gives them back
--   Restored t   encoding the bytes of a base64 text gives it back
--   Exact t      a text is base64 exactly if it is the text of some bytes
use Rattle.std.specs.Prelude.{◌≡◌, ℕ, ◌<◌, true, List, Decides}
use Rattle.std.specs.List.{AllByRecursion}
use Rattle.base64_codec.specs.Texts.{accepted, decoded, encoded}

abbrev pub Byte : ℕ → Type 0
Byte b = b < 256

abbrev pub Undone : List ℕ → Type 0
Undone bs = (accepted (encoded bs) ≡ true) × (decoded (encoded bs) ≡ bs)

abbrev pub Restored : List ℕ → Type 0
Restored t = accepted t ≡ true → encoded (decoded t) ≡ t

abbrev pub Exact : List ℕ → Type 0
Exact t = Decides (accepted t) ((bs : List ℕ) × AllByRecursion Byte bs × (encoded bs ≡ t))
