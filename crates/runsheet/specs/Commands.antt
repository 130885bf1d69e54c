-- The commands of a run sheet, as the bytes of its records have them.
--   Read                 a command and the length of its record, or none where the record is cut
--   Goes r n             a record has at least one byte, and at most n
--   follow bs            FO: stream in byte 2, mode in byte 3
--   leave bs             LV: stream in byte 2
--   play bs              PL: the time in bytes 2 to 9
--   seek bs              SK: likewise
--   evict bs             EX: two times, in bytes 2 to 9 and 10 to 17
--   draw_sheet at bs     MP: the period start in bytes 2 to 9, the length in bytes 10 and 11, the sheet from byte 12 on; the record stands at a place
--   segment_times bs     E, O, S, P and Q, one after the other
--   segment_length bs    the length behind them, where as many bytes follow it
--   draw_segment at bs   SG: the period start in bytes 2 to 9, E 10 to 17, O 18 to 25, S 26 to 29, P 30 to 37, Q 38 to 41, the length in bytes 42 and 43, the segment from byte 44 on
--   marked a b bs        the first two bytes are the mark a b
--   command at bs        the command by its mark; none where the mark is unknown
use Rattle.std.specs.Prelude.{ℕ, ◌+◌, ◌<◌, ◌≤◌, Bool, cond, ◌&&◌, List, length, drop, Some, None, Option, ◌==◌, nat_le, slice_index}
use Rattle.event.specs.Modes.{mode_of}
use Rattle.event.specs.BigEndian.{num16, num32, num64}
use Rattle.runsheet.specs.declared.commands.Command.{Command}
use Rattle.media.specs.declared.times.Times.{Times}
use Rattle.runsheet.specs.declared.commands.Command.TheVariants.{Follow, Leave, Play, Seek, Evict, DrawSheet, DrawSegment}

abbrev pub Read : Type 0
Read = Option (Command × ℕ)

abbrev pub Goes : Read → ℕ → Type 0
Goes None n = Unit {0}
Goes (Some (c, k)) n = (0 < k) × (k ≤ n)

abbrev pub follow : List ℕ → Read
follow bs = cond (nat_le 4 (length bs)) (Some (Follow (slice_index bs 2) (mode_of (slice_index bs 3)), 4)) None

abbrev pub play : List ℕ → Read
play bs = cond (nat_le 10 (length bs)) (Some (Play (num64 bs 2), 10)) None

abbrev pub draw_sheet : ℕ → List ℕ → Read
draw_sheet at bs =
    cond (nat_le 12 (length bs) && nat_le (12 + num16 bs 10) (length bs))
    (Some (DrawSheet (num64 bs 2) (at + 12) (at + 12 + num16 bs 10), 12 + num16 bs 10))
    None

abbrev pub leave : List ℕ → Read
leave bs = cond (nat_le 3 (length bs)) (Some (Leave (slice_index bs 2), 3)) None

abbrev pub seek : List ℕ → Read
seek bs = cond (nat_le 10 (length bs)) (Some (Seek (num64 bs 2), 10)) None

abbrev pub evict : List ℕ → Read
evict bs = cond (nat_le 18 (length bs)) (Some (Evict (num64 bs 2) (num64 bs 10), 18)) None

abbrev pub segment_times : List ℕ → Option Times
segment_times bs =
    cond (nat_le 32 (length bs))
    (Some (record { earliest = num64 bs 0; offset = num64 bs 8; media_ticks = num32 bs 16; inband = num64 bs 20; inband_ticks = num32 bs 28 }))
    None

abbrev pub segment_length : List ℕ → Option ℕ
segment_length bs = cond (nat_le 34 (length bs) && nat_le (34 + num16 bs 32) (length bs)) (Some (num16 bs 32)) None

abbrev pub segment_of : ℕ → ℕ → Option Times → Option ℕ → Read
segment_of at start None l = None
segment_of at start (Some t) None = None
segment_of at start (Some t) (Some n) = Some (DrawSegment start t (at + 44) (at + 44 + n), 44 + n)

abbrev pub draw_segment : ℕ → List ℕ → Read
draw_segment at bs = cond (nat_le 10 (length bs)) (segment_of at (num64 bs 2) (segment_times (drop 10 bs)) (segment_length (drop 10 bs))) None

abbrev pub marked : ℕ → ℕ → List ℕ → Bool
marked a b bs = nat_le 2 (length bs) && (slice_index bs 0 == a && slice_index bs 1 == b)

abbrev pub command : ℕ → List ℕ → Read
command at bs =
    cond (marked 70 79 bs) (follow bs)
    (cond (marked 76 86 bs) (leave bs)
    (cond (marked 80 76 bs) (play bs)
    (cond (marked 83 75 bs) (seek bs)
    (cond (marked 69 88 bs) (evict bs)
    (cond (marked 77 80 bs) (draw_sheet at bs)
    (cond (marked 83 71 bs) (draw_segment at bs) None))))))
