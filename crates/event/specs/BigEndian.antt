-- Numbers in bytes, the highest byte first.
--   num16 bs i   the number of the two bytes of bs from i on
--   num32 bs i   the number of the four bytes of bs from i on
--   num64 bs i   the number of the eight bytes of bs from i on
--   bytes32 n    the four bytes of n
--   bytes64 n    the eight bytes of n
use Rattle.std.specs.Prelude.{ℕ, ◌+◌, ◌*◌, ◌/◌, ◌%◌, List, [], ◌∷◌, slice_index}

abbrev pub num16 : List ℕ → ℕ → ℕ
num16 bs i = slice_index bs i * 256 + slice_index bs (i + 1)

abbrev pub num32 : List ℕ → ℕ → ℕ
num32 bs i = slice_index bs i * 16777216 + slice_index bs (i + 1) * 65536 + slice_index bs (i + 2) * 256 + slice_index bs (i + 3)

abbrev pub num64 : List ℕ → ℕ → ℕ
num64 bs i = slice_index bs i * 72057594037927936 + slice_index bs (i + 1) * 281474976710656 + slice_index bs (i + 2) * 1099511627776 + slice_index bs (i + 3) * 4294967296 + slice_index bs (i + 4) * 16777216 + slice_index bs (i + 5) * 65536 + slice_index bs (i + 6) * 256 + slice_index bs (i + 7)

abbrev pub bytes32 : ℕ → List ℕ
bytes32 n = (n / 16777216 % 256) ∷ (n / 65536 % 256) ∷ (n / 256 % 256) ∷ (n % 256) ∷ []

abbrev pub bytes64 : ℕ → List ℕ
bytes64 n = (n / 72057594037927936 % 256) ∷ (n / 281474976710656 % 256) ∷ (n / 1099511627776 % 256) ∷ (n / 4294967296 % 256) ∷ (n / 16777216 % 256) ∷ (n / 65536 % 256) ∷ (n / 256 % 256) ∷ (n % 256) ∷ []
