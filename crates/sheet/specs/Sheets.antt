-- What the records of a sheet give.
--   opened ts e       the event stream that an `ES` record opens; its stream is numbered in the list ts
--   flagged k v       the flag k of an `EV` record is set: 1 duration known, 2 id present, 4 base64
--   flags_fit v       no other flag is set, and a field that is not flagged is 0
--   text_fits v       a message that is flagged as base64 is base64
--   id_of v           the id, where it is present
--   start g v         the start in milliseconds, under the event stream g
--   lasts g v         the duration likewise
--   span_of g v       start and duration: 9 the time is below the offset, 10 the start or a known duration is past the latest time
--   event_of g at v   the event, whose message stands at a place: 13 the flags do not fit; then as for its span; 14 a flagged message is not base64
use Rattle.std.specs.Prelude.{ℕ, ◌-◌, Bool, cond, not, ◌&&◌, ◌||◌, List, Some, None, Ok, Err, Option, Result, ◌==◌, bit_and, nat_lt}
use Rattle.event.specs.Times.{latest, time}
use Rattle.event.specs.declared.events.Event.{Event}
use Rattle.event.specs.declared.faults.Defect.{Defect}
use Rattle.event.specs.declared.faults.Defect.TheVariants.{BelowZero, PastLatest, Flags, NotBase64}
use Rattle.event.specs.declared.spans.Span.{Span}
use Rattle.base64_codec.specs.Texts.{accepted}
use Rattle.media.specs.Timescales.{millis, timescale}
use Rattle.catalogue.specs.Catalogues.{number}
use Rattle.catalogue.specs.Pairs.{Stream}
use Rattle.sheet.specs.SheetRecords.{Es, Ev}
use Rattle.sheet.specs.declared.sheets.EventStream.{EventStream}

abbrev pub opened : List Stream → Es → EventStream
opened ts e = record { timescale = timescale e.timescale; offset = e.offset; stream = number e.named ts }

abbrev pub flagged : ℕ → Ev → Bool
flagged k v = not (bit_and v.flags k == 0)

abbrev pub flags_fit : Ev → Bool
flags_fit v = nat_lt v.flags 8 && (flagged 1 v || v.duration == 0) && (flagged 2 v || v.id == 0)

abbrev pub text_fits : Ev → Bool
text_fits v = not (flagged 4 v) || accepted v.message

abbrev pub id_of : Ev → Option ℕ
id_of v = cond (flagged 2 v) (Some v.id) None

abbrev pub start : EventStream → Ev → ℕ
start g v = millis (v.time - g.offset) g.timescale.ticks

abbrev pub lasts : EventStream → Ev → ℕ
lasts g v = millis v.duration g.timescale.ticks

abbrev pub span_of : EventStream → Ev → Result Span Defect
span_of g v =
    cond (nat_lt v.time g.offset) (Err BelowZero)
    (cond (nat_lt latest (start g v) || flagged 1 v && nat_lt latest (lasts g v)) (Err PastLatest)
    (Ok (record { start = time (start g v); duration = cond (flagged 1 v) (Some (time (lasts g v))) None })))

abbrev pub messaged : EventStream → ℕ → Ev → Result Span Defect → Result Event Defect
messaged g at v (Err d) = Err d
messaged g at v (Ok s) =
    cond (text_fits v)
    (Ok (record {
      stream = g.stream;
      id = id_of v;
      span = s;
      arrival = time 0;
      message = record { place = at; length = v.size; base64 = flagged 4 v };
    }))
    (Err NotBase64)

abbrev pub event_of : EventStream → ℕ → Ev → Result Event Defect
event_of g at v = cond (flags_fit v) (messaged g at v (span_of g v)) (Err Flags)
