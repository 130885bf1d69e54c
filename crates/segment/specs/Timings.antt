-- How the times of a segment count.
--   within n          the time of n milliseconds, where it is not past the latest time
--   timing t          arrival, which is the earliest time less the offset, and inband offset, each in its timescale; 6 where one of these is none, 9 where the earliest time is below the offset,
--                     10 where the arrival is past the latest time
--   from_inband o n   n milliseconds less the inband offset o: 9 where that is below 0
--   start_of t v n    the start of an event whose time is n milliseconds: a version 0 counts on from the arrival, and 10 where that is past the latest time;
--                     a version 1 counts from the inband offset, and 9 where it is below it
use Rattle.std.specs.Prelude.{ℕ, ◌+◌, ◌-◌, cond, ◌&&◌, Some, None, Ok, Err, Option, Result, nat_le, nat_lt}
use Rattle.event.specs.Numbers.{Answer}
use Rattle.event.specs.Numbers.Answer.{did, refused}
use Rattle.event.specs.Times.{latest, time}
use Rattle.event.specs.declared.faults.Defect.{Defect}
use Rattle.event.specs.declared.faults.Defect.TheVariants.{BelowZero, PastLatest}
use Rattle.event.specs.declared.times.Time.{Time}
use Rattle.media.specs.Timescales.{is_timescale, millis}
use Rattle.media.specs.declared.times.Times.{Times}
use Rattle.segment.specs.declared.timings.Timing.{Timing}
use Rattle.segment.specs.declared.timings.Version.{Version}
use Rattle.segment.specs.declared.timings.Version.TheVariants.{Zero, One}

abbrev pub within : ℕ → Option Time
within n = cond (nat_le n latest) (Some (time n)) None

abbrev pub timing : Times → Answer Timing
timing t =
    cond (is_timescale t.media_ticks && is_timescale t.inband_ticks)
    (cond (nat_le t.offset t.earliest)
    (cond (nat_le (millis (t.earliest - t.offset) t.media_ticks) latest)
    (did (record { arrival = time (millis (t.earliest - t.offset) t.media_ticks); inband = within (millis t.inband t.inband_ticks) }))
    (refused 10))
    (refused 9))
    (refused 6)

abbrev pub from_inband : Option Time → ℕ → Result Time Defect
from_inband None n = Err BelowZero
from_inband (Some o) n = cond (nat_lt n o.ms) (Err BelowZero) (Ok (time (n - o.ms)))

abbrev pub start_of : Timing → Version → ℕ → Result Time Defect
start_of t Zero n = cond (nat_le (t.arrival.ms + n) latest) (Ok (time (t.arrival.ms + n))) (Err PastLatest)
start_of t One n = from_inband t.inband n
