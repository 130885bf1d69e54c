-- The lines that a whole run reports.
--   cues ds                     a line for each dispatch
--   reports ds n a rest         the cues and then the refusal of the record n, before the lines behind it
--   closing w                   the last line: how far the player came, and how many events it keeps
--   since h g                   what a sink was told from h to g
--   performed cs x n m ts w h   the lines of the commands cs, the first of them behind n records, and of the refusal x that stops the reading, if there is one;
--                               over the media buffer m with the streams ts listed, by the player w and the sink h
--   behind v n m ts w h         the same of all that is to come in a run sheet
--   played cs m ts w h          what the player and the sink hold once the commands cs are performed
--   opened m o a w h            the lines of the run sheet m behind its catalogue records o, which gave the streams a or were refused
--   sheet_lines m w h           the lines of the run sheet m, with a player and a sink; refused with 5 where it is too long
--   listed_in a                 how many streams are listed; none at a refusal
--   streams_in m                how many streams the run sheet m lists; none where it is refused
--   lines m k i f               the lines of a whole run of m, with places for k events, i ids and f dispatches
use Rattle.std.specs.Prelude.{ℕ, cond, List, [], ◌∷◌, ◌++◌, length, drop, Some, None, Option, nat_le}
use Rattle.event.specs.Numbers.{Answer, refusal}
use Rattle.event.specs.Numbers.Answer.{did, refused, refused_with}
use Rattle.event.specs.Sinks.{Held}
use Rattle.event.specs.declared.dispatches.Dispatch.{Dispatch}
use Rattle.event.specs.declared.refusals.Refusal.{Refusal}
use Rattle.catalogue.specs.CatalogueWalks.{all_listed}
use Rattle.catalogue.specs.Pairs.{Stream}
use Rattle.calls.specs.State.{State, fresh}
use Rattle.runsheet.specs.Openings.{Opening, lengths, more, opening, records_in}
use Rattle.runsheet.specs.RunSheets.{Commands, commands}
use Rattle.runsheet.specs.declared.commands.Command.{Command}
use Rattle.effects.specs.Effects.{performs}
use Rattle.lines.specs.Refusals.{refusals}
use Rattle.lines.specs.declared.lines.Line.{Line}
use Rattle.lines.specs.declared.lines.Line.TheVariants.{First, Cue, Last}

abbrev pub cues : List Dispatch → List Line
cues [] = []
cues (d ∷ ds) = Cue d ∷ cues ds

abbrev pub reports : List Dispatch → ℕ → Answer (Unit {0}) → List Line → List Line
reports ds n a rest = cues ds ++ (refusals n a ++ rest)

abbrev pub closing : State → List Line
closing w = Last w.playhead.ms (length w.kept) ∷ []

abbrev pub since : Held → Held → List Dispatch
since h g = drop (length h.told) g.told

abbrev pub performed : List Command → Option Refusal → ℕ → List ℕ → List Stream → State → Held → List Line
performed [] None n media streams w h = closing w
performed [] (Some e) n media streams w h = reports [] (more n 1) (refusal e) (closing w)
performed (c ∷ cs) stop n media streams w h =
    reports (since h (performs c media streams w h).2) (more n 1) (performs c media streams w h).0
    (performed cs stop (more n 1) media streams (performs c media streams w h).1 (performs c media streams w h).2)

abbrev pub behind : Commands → ℕ → List ℕ → List Stream → State → Held → List Line
behind v n media streams w h = performed v.items v.stop n media streams w h

abbrev pub played : List Command → List ℕ → List Stream → State → Held → State × Held
played [] media streams w h = (w, h)
played (c ∷ cs) media streams w h = played cs media streams (performs c media streams w h).1 (performs c media streams w h).2

abbrev pub opened : List ℕ → Opening → Answer (List Stream) → State → Held → List Line
opened media o (did streams) w h =
    behind (commands (lengths o.items) (drop (lengths o.items) media)) (more 0 (records_in o)) media streams w h
opened media o (refused k) w h = reports [] (more 0 (records_in o)) (refused k) (closing w)
opened media o (refused_with k f) w h = reports [] (more 0 (records_in o)) (refused_with k f) (closing w)

abbrev pub sheet_lines : List ℕ → State → Held → List Line
sheet_lines media w h =
    cond (nat_le (length media) 65536)
    (opened media (opening 0 media) (all_listed (opening 0 media)) w h)
    (reports [] 0 (refused 5) (closing w))

abbrev pub listed_in : Answer (List Stream) → ℕ
listed_in (did streams) = length streams
listed_in (refused k) = 0
listed_in (refused_with k f) = 0

abbrev pub streams_in : List ℕ → ℕ
streams_in media = cond (nat_le (length media) 65536) (listed_in (all_listed (opening 0 media))) 0

abbrev pub lines : List ℕ → ℕ → ℕ → ℕ → List Line
lines media places id_places free =
    First ∷ sheet_lines media (fresh (streams_in media) places id_places) (record { told = []; free = free })
