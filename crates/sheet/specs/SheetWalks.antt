-- The walk over a sheet.
--   es_turn ts at e         an `ES` record at a place: it is stepped over and governs from there on, or 6 where its timescale is none
--   ev_turn s at m v        an `EV` record at a place, with its message at m: it gives its event, or 12 where no `ES` governs it, or what is wrong with the event
--   sheet_turn ts s at bs   one turn over the bytes bs, which stand at a place: a clean end where none is left, 11 where no record is there
--   sheet ts at bs          what comes from a sheet of the bytes bs, which stand at a place, with the streams ts listed
--   turns s                 the turns over a sheet's records, by their rules
--   coming r                what comes from a sheet reader
use Rattle.std.specs.Prelude.{ℕ, ◌+◌, cond, List, length, Some, None, Ok, Err, Option, Result, ◌==◌}
use Rattle.event.specs.Feeds.{Coming}
use Rattle.event.specs.declared.events.Event.{Event}
use Rattle.event.specs.declared.faults.Defect.{Defect}
use Rattle.event.specs.declared.faults.Defect.TheVariants.{Timescale, CutRecord, NoEventStream}
use Rattle.event.specs.declared.faults.Fault.{Fault}
use Rattle.media.specs.Readers.{comes, fault, coming as reads}
use Rattle.media.specs.Timescales.{is_timescale}
use Rattle.media.specs.Walks.{given}
use Rattle.media.specs.declared.walks.Turn.{Turn}
use Rattle.media.specs.declared.walks.Turn.TheVariants.{Clean, Broken, Gives, Passes}
use Rattle.catalogue.specs.Catalogues.{listed}
use Rattle.catalogue.specs.Pairs.{Stream}
use Rattle.sheet.specs.SheetRecords.{Es, Ev, es_record, ev_record}
use Rattle.sheet.specs.Sheets.{event_of, opened}
use Rattle.sheet.specs.declared.sheets.EventStream.{EventStream}
use Rattle.sheet.specs.declared.sheets.Sheet.{Sheet}
use Rattle.sheet.specs.declared.sheets.SheetReader.{SheetReader}

abbrev pub SheetTurn : Type 0
SheetTurn = Turn Event Fault (Option EventStream)

abbrev pub es_turn : List Stream → ℕ → Es → SheetTurn
es_turn ts at e =
    cond (is_timescale e.timescale) (Passes (Some (opened ts e)) e.length) (Broken (fault at Timescale))

abbrev pub ev_gives : EventStream → ℕ → Ev → Result Event Defect → SheetTurn
ev_gives g at v (Ok e) = Gives e (Some g) (21 + v.size)
ev_gives g at v (Err d) = Broken (fault at d)

abbrev pub ev_turn : Option EventStream → ℕ → ℕ → Ev → SheetTurn
ev_turn None at m v = Broken (fault at NoEventStream)
ev_turn (Some g) at m v = ev_gives g at v (event_of g m v)

abbrev pub read_turn : List Stream → Option EventStream → ℕ → Option Es → Option Ev → SheetTurn
read_turn ts s at (Some e) o = es_turn ts at e
read_turn ts s at None (Some v) = ev_turn s at (at + 21) v
read_turn ts s at None None = Broken (fault at CutRecord)

abbrev pub sheet_turn : List Stream → Option EventStream → ℕ → List ℕ → SheetTurn
sheet_turn ts s at bs = cond (length bs == 0) Clean (read_turn ts s at (es_record bs) (ev_record bs))

abbrev pub sheet : List Stream → ℕ → List ℕ → Coming
sheet ts at bs = comes (given (sheet_turn ts) None at bs)

abbrev pub turns : Sheet → Option EventStream → ℕ → List ℕ → SheetTurn
turns s = sheet_turn (listed s.catalogue.now)

abbrev pub coming : SheetReader → Coming
coming r = reads turns r.reader
