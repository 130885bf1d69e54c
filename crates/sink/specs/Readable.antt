-- The bytes of a byte log.
--   used n bs       the bytes of the first n records
--   Readable bs n   n records fit the bytes, and each of them can be read
use Rattle.std.specs.Prelude.{◌≡◌, ℕ, ◌*◌, ◌≤◌, true, List, length, take, is_ok}
use Rattle.sink.specs.Reading.{read_log}

abbrev pub used : ℕ → List ℕ → List ℕ
used n bs = take (40 * n) bs

abbrev pub Readable : List ℕ → ℕ → Type 0
Readable bs n = (40 * n ≤ length bs) × (is_ok (read_log (used n bs)) ≡ true)
