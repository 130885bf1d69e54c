-- Jumping to a time.
--   seeks t w h   what a seek answers and leaves: 20 past the latest time, 24 where the active events outnumber the free places
use Rattle.std.specs.Prelude.{ℕ, cond, map, length, filter, nat_lt}
use Rattle.event.specs.Numbers.{Answer}
use Rattle.event.specs.Numbers.Answer.{did, refused}
use Rattle.event.specs.Sinks.{Held}
use Rattle.event.specs.Times.{latest, time}
use Rattle.tables.specs.Elements.{active_at}
use Rattle.calls.specs.Plays.{moved, told_by, told_to}
use Rattle.tables.specs.Picks.{at_time}
use Rattle.calls.specs.State.{State}

abbrev pub Seek : Type 0
Seek = Answer ℕ × State × Held

abbrev pub seeks_to : ℕ → State → Held → Seek
seeks_to t w h = (
  did (length (filter (active_at t) w.kept)),
  moved (time t) (active_at t) w,
  told_to h (map (told_by (at_time (time t))) (filter (active_at t) w.kept)),
)

abbrev pub seeks : ℕ → State → Held → Seek
seeks t w h =
    cond (nat_lt latest t) (refused 20, w, h)
    (cond (nat_lt h.free (length (filter (active_at t) w.kept))) (refused 24, w, h)
    (seeks_to t w h))
