-- What the emsg boxes of a segment give.
--   lasting s d          a duration of d ticks, where a second has s: unknown at 0xFFFFFFFF, and 10 where it is past the latest time
--   spanned o t          start and duration, where neither is wrong
--   span_in s t e        start and duration, where a second has s ticks: 10 where the box's time or a known duration is past the latest time, then as for its start
--   span_of t e          the same in the box's own timescale; 6 where that is none
--   evented ts t m e s   the event of that start and duration
--   event_of ts t m e    the event of a box with a message m; its stream is numbered in the list ts
use Rattle.std.specs.Prelude.{ℕ, cond, List, Some, None, Ok, Err, Option, Result, ◌==◌, nat_le}
use Rattle.event.specs.Times.{latest, time}
use Rattle.event.specs.declared.events.Event.{Event}
use Rattle.event.specs.declared.events.Message.{Message}
use Rattle.event.specs.declared.faults.Defect.{Defect}
use Rattle.event.specs.declared.faults.Defect.TheVariants.{Timescale, PastLatest}
use Rattle.event.specs.declared.spans.Span.{Span}
use Rattle.event.specs.declared.times.Time.{Time}
use Rattle.media.specs.Timescales.{is_timescale, millis}
use Rattle.catalogue.specs.Catalogues.{number}
use Rattle.catalogue.specs.Pairs.{Stream}
use Rattle.segment.specs.Emsgs.{Emsg}
use Rattle.segment.specs.Timings.{start_of}
use Rattle.segment.specs.declared.timings.Timing.{Timing}

abbrev pub lasting : ℕ → ℕ → Result (Option Time) Defect
lasting s d =
    cond (d == 4294967295) (Ok None)
    (cond (nat_le (millis d s) latest) (Ok (Some (time (millis d s)))) (Err PastLatest))

abbrev pub spanned : Result (Option Time) Defect → Result Time Defect → Result Span Defect
spanned (Err d) s = Err d
spanned (Ok o) (Err d) = Err d
spanned (Ok o) (Ok t) = Ok (record { start = t; duration = o })

abbrev pub span_in : ℕ → Timing → Emsg → Result Span Defect
span_in s t e =
    cond (nat_le (millis e.time s) latest) (spanned (lasting s e.duration) (start_of t e.version (millis e.time s))) (Err PastLatest)

abbrev pub span_of : Timing → Emsg → Result Span Defect
span_of t e = cond (is_timescale e.timescale) (span_in e.timescale t e) (Err Timescale)

abbrev pub evented : List Stream → Timing → Message → Emsg → Result Span Defect → Result Event Defect
evented ts t m e (Err d) = Err d
evented ts t m e (Ok s) =
    Ok (record { stream = number e.named ts; id = Some e.id; span = s; arrival = t.arrival; message = m })

abbrev pub event_of : List Stream → Timing → Message → Emsg → Result Event Defect
event_of ts t m e = evented ts t m e (span_of t e)
