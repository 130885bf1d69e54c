-- Which kept events a call takes, and where it tells them.
--   starts_by t k      the event starts at t or before it
--   starts_in a b k    the event starts after a, and at b or before it
--   start_of k         the position where a play tells it
--   at_time t k        the position t, whatever the event
--   kept_in s k        a kept event of the stream
--   used_in s n        a used id of the stream
--   arrived_in a b k   the event arrived at a or later, and before b
use Rattle.std.specs.Prelude.{ℕ, Bool, not, ◌&&◌, ◌==◌, nat_le, nat_lt}
use Rattle.event.specs.declared.times.Time.{Time}
use Rattle.tables.specs.declared.elements.Kept.{Kept}
use Rattle.tables.specs.declared.elements.UsedId.{UsedId}
use Rattle.tables.specs.Elements.{starts}

abbrev pub starts_by : ℕ → Kept → Bool
starts_by t k = nat_le (starts k) t

abbrev pub starts_in : ℕ → ℕ → Kept → Bool
starts_in a b k = not (starts_by a k) && starts_by b k

abbrev pub start_of : Kept → Time
start_of k = k.span.start

abbrev pub at_time : Time → Kept → Time
at_time t k = t

abbrev pub kept_in : ℕ → Kept → Bool
kept_in s k = k.stream == s

abbrev pub used_in : ℕ → UsedId → Bool
used_in s n = n.stream == s

abbrev pub arrived_in : ℕ → ℕ → Kept → Bool
arrived_in a b k = nat_le a k.arrival.ms && nat_lt k.arrival.ms b
