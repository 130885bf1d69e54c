-- Timescales.
--   is_timescale n   n is the number of a timescale: 1 to 10,000,000
--   timescale n      the timescale of n ticks to a second, or the nearest one where n is none
--   millis n s       n ticks in whole milliseconds, where a second has s
use Rattle.std.specs.Prelude.{ℕ, ◌*◌, ◌/◌, ◌≤◌, min, max, Bool, ◌&&◌, nat_le}
use Rattle.std.proofs.Common.{arith}
use Rattle.media.specs.declared.timescales.Timescale.{Timescale}

abbrev pub is_timescale : ℕ → Bool
is_timescale n = nat_le 1 n && nat_le n 10000000

pub within : (n : ℕ) → (1 ≤ max 1 (min n 10000000)) × (max 1 (min n 10000000) ≤ 10000000)
within n = (omega arith, omega arith)

abbrev pub timescale : ℕ → Timescale
timescale n = record { ticks = max 1 (min n 10000000); proper = within n }

abbrev pub millis : ℕ → ℕ → ℕ
millis n s = 1000 * n / s
