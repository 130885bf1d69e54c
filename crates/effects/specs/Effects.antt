-- What a command does to a player and its sink.
--   After                        the answer, the player and the sink
--   goes_on o f                  what follows a record that was not refused
--   draws_all es x w h           drawing record after record up to the ending or a refusal
--   draws_from c w h             the same of all that is to come
--   done a                       the answer without its value
--   draws_sheet p e ts w h       drawing the sheet in a stretch, in a period that starts at p
--   draws_segment p e t ts w h   drawing the segment in a stretch, with its timing, likewise
--   performs c m ts w h          what a command does, over the media buffer m with the streams ts listed
use Rattle.std.specs.Prelude.{ℕ, List, [], ◌∷◌, Some, None, Option}
use Rattle.std.specs.List.{between}
use Rattle.event.specs.Feeds.{Coming}
use Rattle.event.specs.declared.events.Event.{Event}
use Rattle.event.specs.declared.faults.Fault.{Fault}
use Rattle.event.specs.Numbers.{Answer}
use Rattle.event.specs.Numbers.Answer.{did, refused, refused_with}
use Rattle.event.specs.Sinks.{Held}
use Rattle.media.specs.Stretches.{Extent, stretch}
use Rattle.catalogue.specs.Pairs.{Stream}
use Rattle.sheet.specs.SheetWalks.{sheet}
use Rattle.segment.specs.SegmentWalks.{segment}
use Rattle.segment.specs.Timings.{timing}
use Rattle.segment.specs.declared.timings.Timing.{Timing}
use Rattle.layers.specs.Periods.{in_period}
use Rattle.calls.specs.Follows.{follows}
use Rattle.calls.specs.Evicts.{evicts}
use Rattle.calls.specs.Leaves.{leaves}
use Rattle.calls.specs.Plays.{plays}
use Rattle.calls.specs.Seeks.{seeks}
use Rattle.calls.specs.declared.answers.Drawn.{Drawn}
use Rattle.calls.specs.Draws.{receives}
use Rattle.calls.specs.State.{State}
use Rattle.runsheet.specs.declared.commands.Command.{Command}
use Rattle.runsheet.specs.declared.commands.Command.TheVariants.{Follow, Leave, Play, Seek, Evict, DrawSheet, DrawSegment}

abbrev pub After : Type 0
After = Answer (Unit {0}) × State × Held

abbrev pub goes_on : Answer Drawn → State → Held → After → After
goes_on (did d) w h next = next
goes_on (refused n) w h next = (refused n, w, h)
goes_on (refused_with n f) w h next = (refused_with n f, w, h)

abbrev pub draws_all : List Event → Option Fault → State → Held → After
draws_all [] None w h = (did tt, w, h)
draws_all [] (Some f) w h = (refused_with 26 f, w, h)
draws_all (e ∷ es) x w h =
    goes_on (receives e w h).0 (receives e w h).1 (receives e w h).2
    (draws_all es x (receives e w h).1 (receives e w h).2)

abbrev pub draws_from : Coming → State → Held → After
draws_from c w h = draws_all c.records c.ending w h

abbrev pub done : {X : Type 0} → Answer X → Answer (Unit {0})
done (did x) = did tt
done (refused n) = refused n
done (refused_with n f) = refused_with n f

abbrev pub draws_sheet : ℕ → Answer Extent → List Stream → State → Held → After
draws_sheet start (did e) streams w h = draws_from (in_period start (sheet streams e.from (between e.from e.to e.media))) w h
draws_sheet start (refused n) streams w h = (refused n, w, h)
draws_sheet start (refused_with n f) streams w h = (refused_with n f, w, h)

abbrev pub draws_segment : ℕ → Answer Extent → Answer Timing → List Stream → State → Held → After
draws_segment start (did e) (did t) streams w h = draws_from (in_period start (segment streams t e.from (between e.from e.to e.media))) w h
draws_segment start (did e) (refused n) streams w h = (refused n, w, h)
draws_segment start (did e) (refused_with n f) streams w h = (refused_with n f, w, h)
draws_segment start (refused n) t streams w h = (refused n, w, h)
draws_segment start (refused_with n f) t streams w h = (refused_with n f, w, h)

abbrev pub performs : Command → List ℕ → List Stream → State → Held → After
performs (Follow s m) media streams w h = ((follows s m w).0, (follows s m w).1, h)
performs (Leave s) media streams w h = (done (leaves s w).0, (leaves s w).1, h)
performs (Seek t) media streams w h = (done (seeks t w h).0, (seeks t w h).1, (seeks t w h).2)
performs (Evict a b) media streams w h = (done (evicts a b w).0, (evicts a b w).1, h)
performs (Play t) media streams w h = (done (plays t w h).0, (plays t w h).1, (plays t w h).2)
performs (DrawSheet start from to) media streams w h = draws_sheet start (stretch media from to) streams w h
performs (DrawSegment start t from to) media streams w h =
    draws_segment start (stretch media from to) (timing t) streams w h
