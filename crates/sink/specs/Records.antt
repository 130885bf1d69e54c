-- One record of a byte log: 40 bytes.
--   laid r           its bytes: the mark DL, flags, stream, position, start, duration, id, place, length
--   marked bs        40 bytes are there, and the first two are the mark
--   record_at bs     the record at the front of bytes
--   has k n          whether the flag k is among the flags n
--   on_start t       whether a dispatch was told on start
--   flags_of d       the flags of a dispatch: 1 duration known, 2 id present, 4 base64, 8 on start
--   milliseconds o a duration, or 0 where it is not known
--   or_zero o        an id, or 0 where there is none
--   record_of d      a dispatch as a record: fields that it has not are 0
--   flagged r        no other flag, and each unflagged field is 0
--   in_time r        no time past the latest
--   dispatch_in r    the dispatch of a record
--   checked r        the dispatch, or what is wrong with the record: 13, then 10
--   read_record bs   the dispatch at the front of bytes, or what is wrong there: 11, then 13, then 10
use Rattle.std.specs.Prelude.{ℕ, Bool, true, false, cond, not, ◌&&◌, ◌||◌, List, ◌∷◌, ◌++◌, length, is_some, Some, None, Ok, Err, Option, Result, ◌==◌, bit_and, bit_or, nat_le, nat_lt, slice_index}
use Rattle.event.specs.Times.{latest, time}
use Rattle.event.specs.declared.dispatches.Dispatch.{Dispatch}
use Rattle.event.specs.declared.faults.Defect.{Defect}
use Rattle.event.specs.declared.faults.Defect.TheVariants.{CutRecord, Flags, PastLatest}
use Rattle.event.specs.declared.modes.Trigger.{Trigger}
use Rattle.event.specs.declared.modes.Trigger.TheVariants.{Receive, Start}
use Rattle.event.specs.declared.times.Time.{Time}
use Rattle.event.specs.BigEndian.{num32, num64, bytes32, bytes64}
use Rattle.sink.specs.declared.records.Record.{Record}

abbrev pub laid : Record → List ℕ
laid r = 68 ∷ 76 ∷ r.flags ∷ r.stream ∷ (bytes64 r.position ++ (bytes64 r.start ++ (bytes64 r.duration ++ (bytes32 r.id ++ (bytes32 r.place ++ bytes32 r.length)))))

abbrev pub marked : List ℕ → Bool
marked bs = nat_le 40 (length bs) && (slice_index bs 0 == 68 && slice_index bs 1 == 76)

abbrev pub record_at : List ℕ → Record
record_at bs = record {
  flags = slice_index bs 2;
  stream = slice_index bs 3;
  position = num64 bs 4;
  start = num64 bs 12;
  duration = num64 bs 20;
  id = num32 bs 28;
  place = num32 bs 32;
  length = num32 bs 36;
}

abbrev pub has : ℕ → ℕ → Bool
has k n = not (bit_and n k == 0)

abbrev pub on_start : Trigger → Bool
on_start Receive = false
on_start Start = true

abbrev pub flags_of : Dispatch → ℕ
flags_of d =
    bit_or (bit_or (bit_or (cond (is_some d.span.duration) 1 0) (cond (is_some d.id) 2 0)) (cond d.message.base64 4 0)) (cond (on_start d.trigger) 8 0)

abbrev pub milliseconds : Option Time → ℕ
milliseconds None = 0
milliseconds (Some t) = t.ms

abbrev pub or_zero : Option ℕ → ℕ
or_zero None = 0
or_zero (Some n) = n

abbrev pub record_of : Dispatch → Record
record_of d = record {
  flags = flags_of d;
  stream = d.stream;
  position = d.position.ms;
  start = d.span.start.ms;
  duration = milliseconds d.span.duration;
  id = or_zero d.id;
  place = d.message.place;
  length = d.message.length;
}

abbrev pub flagged : Record → Bool
flagged r = nat_lt r.flags 16 && ((has 1 r.flags || r.duration == 0) && (has 2 r.flags || r.id == 0))

abbrev pub in_time : Record → Bool
in_time r = nat_le r.position latest && (nat_le r.start latest && nat_le r.duration latest)

abbrev pub dispatch_in : Record → Dispatch
dispatch_in r = record {
  position = time r.position;
  trigger = cond (has 8 r.flags) Start Receive;
  stream = r.stream;
  id = cond (has 2 r.flags) (Some r.id) None;
  span = record { start = time r.start; duration = cond (has 1 r.flags) (Some (time r.duration)) None };
  message = record { place = r.place; length = r.length; base64 = has 4 r.flags };
}

abbrev pub checked : Record → Result Dispatch Defect
checked r = cond (flagged r) (cond (in_time r) (Ok (dispatch_in r)) (Err PastLatest)) (Err Flags)

abbrev pub read_record : List ℕ → Result Dispatch Defect
read_record bs = cond (marked bs) (checked (record_at bs)) (Err CutRecord)
