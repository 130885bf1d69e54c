-- The records of a sheet, as their bytes have them.
--   Es                     timescale, offset, the stream that scheme and value name, and the length of the record
--   Ev                     flags, presentation time, duration, id, message length and message
--   whole n bs             the n bytes at the front of bs, where there are so many
--   es_record bs           the `ES` record at the front of bs: mark `ES`, timescale u32, offset u64, scheme length u8, value length u8, scheme, value;
--                          none where the mark is another or the record is cut
--   ev_record bs           the `EV` record at the front of bs: mark `EV`, flags u8, presentation time u64, duration u32, id u32, message length u16, message;
--                          none likewise
--   es_fields, ev_fields   these behind the mark, where the strings or the message are not cut
--   es r, ev r             what a record that was read says
use Rattle.std.specs.Prelude.{ℕ, ◌+◌, cond, ◌&&◌, List, length, take, drop, Some, None, Option, nat_le, slice_index}
use Rattle.event.specs.BigEndian.{num16, num32, num64}
use Rattle.catalogue.specs.Pairs.{Stream, fronted, marked, stream}
use Rattle.sheet.specs.declared.sheets.records.EsRecord.{EsRecord}
use Rattle.sheet.specs.declared.sheets.records.EvRecord.{EvRecord}

pub record Es : Type 0 where
  pub timescale : ℕ
  pub offset : ℕ
  pub named : Stream
  pub length : ℕ

pub record Ev : Type 0 where
  pub flags : ℕ
  pub time : ℕ
  pub duration : ℕ
  pub id : ℕ
  pub size : ℕ
  pub message : List ℕ

abbrev pub es_fields : List ℕ → Option Stream → Option Es
es_fields bs None = None
es_fields bs (Some s) = Some (record { timescale = num32 bs 2; offset = num64 bs 6; named = s; length = 16 + slice_index bs 14 + slice_index bs 15 })

abbrev pub es_record : List ℕ → Option Es
es_record bs =
    cond (marked 69 83 bs && nat_le 16 (length bs)) (es_fields bs (fronted (slice_index bs 14) (slice_index bs 15) (drop 16 bs))) None

abbrev pub whole : ℕ → List ℕ → Option (List ℕ)
whole n bs = cond (nat_le n (length bs)) (Some (take n bs)) None

abbrev pub ev_fields : List ℕ → Option (List ℕ) → Option Ev
ev_fields bs None = None
ev_fields bs (Some m) =
    Some (record { flags = slice_index bs 2; time = num64 bs 3; duration = num32 bs 11; id = num32 bs 15; size = num16 bs 19; message = m })

abbrev pub ev_record : List ℕ → Option Ev
ev_record bs =
    cond (marked 69 86 bs && nat_le 21 (length bs)) (ev_fields bs (whole (num16 bs 19) (drop 21 bs))) None

abbrev pub es : EsRecord → Es
es r = record { timescale = r.timescale; offset = r.offset; named = stream r.pair; length = r.length }

abbrev pub ev : EvRecord → Ev
ev r = record {
  flags = r.flags;
  time = r.time;
  duration = r.duration;
  id = r.id;
  size = r.size;
  message = r.message.now;
}
