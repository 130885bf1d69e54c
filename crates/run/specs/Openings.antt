-- What was read of a run sheet before its commands.
--   onward s w h     the lines that are behind what was performed, where s is what is still read; the last line alone where nothing is
--   outcome s w h    what the player and the sink hold once all that s reads is performed
--   went a           how the last of the records went that were read
--   listed_by a      how many streams are listed; none after a refusal
--   coming o w h     the lines that an opening leads to, with a player and a sink
--   Opens m o        the opening leads to the lines of the run sheet m, whatever the player and the sink, and lists its streams
--   Whole o w h ls   from the opening of a run sheet m, a fresh player with as many streams and a sink that was told nothing, ls are the lines of a whole run of m
use Rattle.std.specs.Prelude.{◌≡◌, ℕ, List, [], length, Some, None, Ok, Err, Option, Result}
use Rattle.std.specs.Result.{result_ok}
use Rattle.event.specs.Numbers.{answer}
use Rattle.event.specs.Sinks.{Held}
use Rattle.event.specs.declared.refusals.Refusal.{Refusal}
use Rattle.catalogue.specs.Catalogues.{listed}
use Rattle.calls.specs.State.{State, fresh}
use Rattle.runsheet.specs.RunSheets.{commands_in}
use Rattle.run.specs.Lines.{behind, closing, lines, played, reports, sheet_lines, streams_in}
use Rattle.lines.specs.declared.lines.Line.{Line}
use Rattle.run.specs.declared.openings.Opening.{Opening}
use Rattle.run.specs.declared.openings.Script.{Script}

abbrev pub onward : Option Script → State → Held → List Line
onward None w h = closing w
onward (Some s) w h = behind (commands_in s.sheet) s.sheet.count s.media.now (listed s.catalogue) w h

abbrev pub outcome : Option Script → State → Held → State × Held
outcome None w h = (w, h)
outcome (Some s) w h = played (commands_in s.sheet).items s.media.now (listed s.catalogue) w h

abbrev pub went : Result Script Refusal → Result (Unit {0}) Refusal
went (Ok s) = Ok tt
went (Err e) = Err e

abbrev pub listed_by : Result Script Refusal → ℕ
listed_by (Ok s) = length (listed s.catalogue)
listed_by (Err e) = 0

abbrev pub coming : Opening → State → Held → List Line
coming o w h = reports [] o.count (answer (went o.script)) (onward (result_ok o.script) w h)

pub record Opens (media : List ℕ) (o : Opening) : Type 0 where
  pub lines : (w : State) (h : Held) → coming o w h ≡ sheet_lines media w h
  pub streams : listed_by o.script ≡ streams_in media

abbrev pub Whole : Opening → State → Held → List Line → Type 0
Whole o w h ls =
    (media : List ℕ) (places id_places : ℕ) → Opens media o → w ≡ fresh (streams_in media) places id_places → h.told ≡ []
    → ls ≡ lines media places id_places h.free
