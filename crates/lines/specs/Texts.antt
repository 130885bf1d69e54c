-- The text of a line.
--   or_dash o          a number, or a dash where there is none
--   letter t           R on receive, S on start
--   words ws           texts with a space between each two
--   text l             the first line; position, letter, stream, id, start, duration and message length of a dispatch;
--                      the record and the number of a refusal, and the number of the fault that it carries; the last line
--   text_of_first ls   the text of the first of these lines; nothing where there is none
use Rattle.std.specs.Prelude.{ℕ, List, [], ◌∷◌, ◌++◌, Some, None, codes, decimal, Option}
use Rattle.std.specs.Option.{option_map}
use Rattle.event.specs.declared.dispatches.Dispatch.{Dispatch}
use Rattle.event.specs.declared.modes.Trigger.{Trigger}
use Rattle.event.specs.declared.modes.Trigger.TheVariants.{Receive, Start}
use Rattle.event.specs.declared.times.Time.{Time}
use Rattle.lines.specs.declared.lines.Line.{Line}
use Rattle.lines.specs.declared.lines.Line.TheVariants.{First, Cue, Refused, Last}

abbrev pub or_dash : Option ℕ → List ℕ
or_dash None = codes "-"
or_dash (Some n) = decimal n

abbrev pub letter : Trigger → List ℕ
letter Receive = codes "R"
letter Start = codes "S"

abbrev pub milliseconds : Time → ℕ
milliseconds t = t.ms

abbrev pub words : List (List ℕ) → List ℕ
words [] = []
words (w ∷ []) = w
words (w ∷ v ∷ ws) = w ++ (codes " " ++ words (v ∷ ws))

abbrev pub cue : Dispatch → List ℕ
cue d = words (
    decimal d.position.ms ∷ letter d.trigger ∷ decimal d.stream ∷ or_dash d.id
    ∷ decimal d.span.start.ms ∷ or_dash (option_map milliseconds d.span.duration) ∷ decimal d.message.length ∷ [])

abbrev pub refused : ℕ → ℕ → Option ℕ → List ℕ
refused n k None = words (codes "refused" ∷ decimal n ∷ decimal k ∷ [])
refused n k (Some f) = words (codes "refused" ∷ decimal n ∷ decimal k ∷ decimal f ∷ [])

abbrev pub text : Line → List ℕ
text First = codes "cues 1"
text (Cue d) = cue d
text (Refused n k f) = refused n k f
text (Last p n) = words (codes "playhead" ∷ decimal p ∷ codes "kept" ∷ decimal n ∷ [])

abbrev pub text_of_first : List Line → List ℕ
text_of_first [] = []
text_of_first (l ∷ ls) = text l
