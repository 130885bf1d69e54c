-- Eight examples that are worked out by hand.
--   times e o s p q       times with these: the earliest presentation time, the offset and the media timescale, the inband offset and its timescale
--   start_given a v n s   the start that an emsg box of a version gives, whose time is n ticks of s, in a segment with the timing a
--   kept a d              a kept event that starts at a, with a duration or none
--   deck ks               a player at 0 that keeps these events
--   room n                a sink that was told nothing and has n free places
--   ev_at n               an event of a sheet at the time n, with nothing flagged
--   sheet_at o            an event stream in milliseconds with the offset o
--   a_gk, a_gl            the texts aGk= and aGl=
--   start_in r            the start in milliseconds, or the number of what is wrong
--   Worked                what the definitions give for each of the examples
use Rattle.std.specs.Prelude.{◌≡◌, ℕ, true, false, List, [], ◌∷◌, Some, None, Ok, Err, Option, Result}
use Rattle.std.specs.Option.{option_map}
use Rattle.std.specs.Result.{result_ok}
use Rattle.event.specs.Numbers.{Answer, defect_number}
use Rattle.event.specs.Numbers.Answer.{did, refused, refused_with}
use Rattle.event.specs.Sinks.{Held}
use Rattle.event.specs.Times.{time}
use Rattle.event.specs.declared.faults.Defect.{Defect}
use Rattle.event.specs.declared.spans.Span.{Span}
use Rattle.event.specs.declared.times.Time.{Time}
use Rattle.base64_codec.specs.Texts.{accepted, decoded}
use Rattle.media.specs.Timescales.{millis, timescale}
use Rattle.media.specs.declared.times.Times.{Times}
use Rattle.sheet.specs.SheetRecords.{Ev}
use Rattle.sheet.specs.Sheets.{span_of}
use Rattle.sheet.specs.declared.sheets.EventStream.{EventStream}
use Rattle.segment.specs.Segments.{lasting}
use Rattle.segment.specs.Timings.{start_of, timing}
use Rattle.segment.specs.declared.timings.Timing.{Timing}
use Rattle.segment.specs.declared.timings.Version.{Version}
use Rattle.segment.specs.declared.timings.Version.TheVariants.{Zero, One}
use Rattle.calls.specs.Plays.{plays}
use Rattle.calls.specs.Seeks.{seeks}
use Rattle.calls.specs.State.{State, fresh}
use Rattle.tables.specs.declared.elements.Kept.{Kept}

abbrev pub times : ℕ → ℕ → ℕ → ℕ → ℕ → Times
times e o s p q = record { earliest = e; offset = o; media_ticks = s; inband = p; inband_ticks = q }

abbrev pub start_given : Answer Timing → Version → ℕ → ℕ → Option Time
start_given (did t) v n s = result_ok (start_of t v (millis n s))
start_given (refused k) v n s = None
start_given (refused_with k f) v n s = None

abbrev pub kept : ℕ → Option ℕ → Kept
kept a d = record { stream = 0; id = None; span = record { start = time a; duration = option_map time d }; arrival = time 0; message = record { place = 0; length = 0; base64 = false } }

abbrev pub deck : List Kept → State
deck ks = record { streams = 1; playhead = time 0; modes = (fresh 1 1 1).modes; kept = ks; used = []; places = 8; id_places = 8 }

abbrev pub room : ℕ → Held
room n = record { told = []; free = n }

abbrev pub ev_at : ℕ → Ev
ev_at n = record { flags = 0; time = n; duration = 0; id = 0; size = 0; message = [] }

abbrev pub sheet_at : ℕ → EventStream
sheet_at o = record { timescale = timescale 1000; offset = o; stream = None }

abbrev pub start_in : Result Span Defect → Answer ℕ
start_in (Ok s) = did s.start.ms
start_in (Err d) = refused (defect_number d)

abbrev pub a_gk : List ℕ
a_gk = 97 ∷ 71 ∷ 107 ∷ 61 ∷ []

abbrev pub a_gl : List ℕ
a_gl = 97 ∷ 71 ∷ 108 ∷ 61 ∷ []

pub record Worked : Type 0 where
  pub delta_adds_to_arrival : start_given (timing (times 180000 90000 90000 0 1)) Zero 500 1000 ≡ Some (time 1500)
  pub presentation_time_is_rounded_down : start_given (timing (times 0 0 1 0 1)) One 1001 90000 ≡ Some (time 11)
  pub each_fraction_by_itself : start_given (timing (times 1 0 3 0 1)) Zero 2 3 ≡ Some (time 999)
  pub largest_duration_is_unknown : (lasting 1000 4294967295 ≡ Ok None) × (lasting 1000 4294967294 ≡ Ok (Some (time 4294967294)))
  pub seek_onto_the_end : ((seeks 3500 (deck (kept 3000 (Some 500) ∷ [])) (room 1)).0 ≡ did 1) × ((seeks 3501 (deck (kept 3000 (Some 500) ∷ [])) (room 1)).0 ≡ did 0)
  pub sheet_time_at_the_offset : (start_in (span_of (sheet_at 700) (ev_at 700)) ≡ did 0) × (start_in (span_of (sheet_at 700) (ev_at 699)) ≡ refused 9)
  pub group_without_places : (plays 5000 (deck (kept 2000 None ∷ kept 3000 None ∷ kept 3000 None ∷ [])) (room 2)).0 ≡ did (record { told = 1; playhead = time 2999 })
  pub unused_bits_are_zero : (accepted a_gk ≡ true) × (decoded a_gk ≡ 0x68 ∷ 0x69 ∷ []) × (accepted a_gl ≡ false)
