-- The walk over a segment.
--   SegmentTurn                 a turn over a box; a walk over a segment has no state
--   box_gives at k r            a box of k bytes at a place that gives an event, or what is wrong with it
--   emsg_event ts t end o       the event of an emsg box that ends at a place, whose fields are o: 8 where the fields do not fit, or what is wrong with the event;
--                               the message is what is left at the box's end
--   box_turn ts t at z bs j     a box at a place, by what a reader finds it to be
--   found bs                    what a reader finds the box at the front of bs to be
--   segment_turn ts t s at bs   one turn over the bytes bs, which stand at a place: a clean end where none is left
--   segment ts t at bs          what comes from a segment of the bytes bs, which stand at a place, with the streams ts listed
--   turns s                     the turns over a segment's boxes, by their rules
--   coming r                    what comes from a segment reader
use Rattle.std.specs.Prelude.{ℕ, ◌+◌, ◌-◌, false, cond, List, length, drop, Some, None, Ok, Err, Option, Result, ◌==◌}
use Rattle.event.specs.Feeds.{Coming}
use Rattle.event.specs.declared.events.Event.{Event}
use Rattle.event.specs.declared.faults.Defect.{Defect}
use Rattle.event.specs.declared.faults.Defect.TheVariants.{BoxFields}
use Rattle.event.specs.declared.faults.Fault.{Fault}
use Rattle.media.specs.Readers.{comes, fault, coming as reads}
use Rattle.media.specs.Walks.{given}
use Rattle.media.specs.declared.walks.Turn.{Turn}
use Rattle.media.specs.declared.walks.Turn.TheVariants.{Clean, Broken, Gives, Passes}
use Rattle.catalogue.specs.Catalogues.{listed}
use Rattle.catalogue.specs.Pairs.{Stream}
use Rattle.segment.specs.Boxes.{Judgement, body, judged, kind, size_of, span, version}
use Rattle.segment.specs.Emsgs.{Emsg, emsg_of}
use Rattle.segment.specs.Segments.{event_of}
use Rattle.segment.specs.declared.segments.Segment.{Segment}
use Rattle.segment.specs.declared.segments.SegmentReader.{SegmentReader}
use Rattle.segment.specs.declared.segments.boxes.Size.{Size}
use Rattle.segment.specs.declared.timings.Timing.{Timing}

abbrev pub SegmentTurn : Type 0
SegmentTurn = Turn Event Fault (Unit {0})

abbrev pub box_gives : ℕ → ℕ → Result Event Defect → SegmentTurn
box_gives at k (Ok e) = Gives e tt k
box_gives at k (Err d) = Broken (fault at d)

abbrev pub emsg_event : List Stream → Timing → ℕ → Option Emsg → Result Event Defect
emsg_event ts t end None = Err BoxFields
emsg_event ts t end (Some e) =
    event_of ts t (record { place = end - e.message; length = e.message; base64 = false }) e

abbrev pub box_turn : List Stream → Timing → ℕ → Size → List ℕ → Judgement → SegmentTurn
box_turn ts t at z bs (Err d) = Broken (fault at d)
box_turn ts t at z bs (Ok None) = Passes tt (span z (length bs))
box_turn ts t at z bs (Ok (Some v)) =
    box_gives at (span z (length bs)) (emsg_event ts t (at + span z (length bs)) (emsg_of v (drop 4 (body z bs))))

abbrev pub found : List ℕ → Judgement
found bs = judged (size_of bs) (length bs) (kind bs) (version (body (size_of bs) bs))

abbrev pub segment_turn : List Stream → Timing → Unit {0} → ℕ → List ℕ → SegmentTurn
segment_turn ts t s at bs = cond (length bs == 0) Clean (box_turn ts t at (size_of bs) bs (found bs))

abbrev pub segment : List Stream → Timing → ℕ → List ℕ → Coming
segment ts t at bs = comes (given (segment_turn ts t) tt at bs)

abbrev pub turns : Segment → Unit {0} → ℕ → List ℕ → SegmentTurn
turns s = segment_turn (listed s.catalogue.now) s.timing

abbrev pub coming : SegmentReader → Coming
coming r = reads turns r.reader
