-- Times in milliseconds.
--   latest   the latest time
--   time n   the time of n milliseconds, or the latest time where n is past it
use Rattle.std.specs.Prelude.{ℕ, ◌≤◌, min}
use Rattle.std.proofs.Common.{arith}
use Rattle.event.specs.declared.times.Time.{Time}

abbrev pub latest : ℕ
latest = 4000000000000

pub within : (n : ℕ) → min n latest ≤ latest
within n = omega arith

abbrev pub time : ℕ → Time
time n = record { ms = min n latest; bounded = within n }
