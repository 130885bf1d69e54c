-- Reading a run sheet record by record.
--   WholeMedia m r            a run sheet at its first record over the whole of m; refused with 5 where m is too long
--   Commands                  the commands of a run sheet, and the refusal that stops the reading, if one does
--   turn_of r                 one turn over the record that was read; refused with 30 where there is none
--   command_turn at bs        one turn over the bytes bs, which stand at a place: a clean end where none is left
--   commands at bs            the commands that the bytes bs hold, which stand at a place
--   commands_in s             the commands that are still to come in a run sheet
--   at_end x, first_of cs x   what stands next where no command is left, and before the commands cs
--   head_of w                 what stands next: a command, or the refusal that stops the reading; nothing at the end
--   rest_of w                 all but the first command
--   Reads w v r               of the commands w what stands next is r, and v is what is left behind it
--   command_of r              the command that was read; where there is none, 30
--   length_of r               the length of the record that was read; 0 where there is none
--   next_of at bs             what stands next, at a place with the bytes bs left; nothing where none is left
--   counted bs n              the records counted, with the next one among them, if there is one
--   Onward r a b to           after a command the place has moved on from a to b, within the media buffer
--   counted_with o n          the records counted, with the next one among them, if there is one
use Rattle.std.specs.Prelude.{◌≡◌, ℕ, ◌+◌, ◌<◌, ◌≤◌, min, true, false, cond, List, [], ◌∷◌, length, drop, Some, None, Ok, Err, Option, Result, ◌==◌, nat_le}
use Rattle.event.specs.Numbers.{refusal}
use Rattle.event.specs.Numbers.Answer.{refused}
use Rattle.event.specs.declared.refusals.Refusal.{Refusal}
use Rattle.event.specs.declared.refusals.Refusal.TheVariants.{RunSheetRecord}
use Rattle.media.specs.Stretches.{extent, left}
use Rattle.media.specs.Walks.{Walked, given}
use Rattle.media.specs.declared.walks.Turn.{Turn}
use Rattle.media.specs.declared.walks.Turn.TheVariants.{Clean, Broken, Gives}
use Rattle.runsheet.specs.Commands.{Read, command}
use Rattle.runsheet.specs.Openings.{more}
use Rattle.runsheet.specs.declared.commands.Command.{Command}
use Rattle.runsheet.specs.declared.sheets.RunSheet.{RunSheet}

abbrev pub WholeMedia : List ℕ → Result RunSheet Refusal → Type 0
WholeMedia m (Ok s) = (nat_le (length m) 65536 ≡ true) × (extent s.stretch ≡ record { media = m; from = 0; to = length m }) × (s.place ≡ 0) × (s.count ≡ 0)
WholeMedia m (Err e) = (nat_le (length m) 65536 ≡ false) × (refusal {X = Unit {0}} e ≡ refused 5)

abbrev pub Commands : Type 0
Commands = Walked Command Refusal

abbrev pub turn_of : Read → Turn Command Refusal (Unit {0})
turn_of None = Broken RunSheetRecord
turn_of (Some (c, n)) = Gives c tt n

abbrev pub command_turn : Unit {0} → ℕ → List ℕ → Turn Command Refusal (Unit {0})
command_turn u at bs = cond (length bs == 0) Clean (turn_of (command at bs))

abbrev pub commands : ℕ → List ℕ → Commands
commands at bs = given command_turn tt at bs

abbrev pub commands_in : RunSheet → Commands
commands_in s = commands s.place (left s.stretch s.place)

abbrev pub at_end : Option Refusal → Option (Result Command Refusal)
at_end None = None
at_end (Some e) = Some (Err e)

abbrev pub first_of : List Command → Option Refusal → Option (Result Command Refusal)
first_of [] stop = at_end stop
first_of (c ∷ cs) stop = Some (Ok c)

abbrev pub head_of : Commands → Option (Result Command Refusal)
head_of w = first_of w.items w.stop

abbrev pub rest_of : Commands → Commands
rest_of w = record { items = drop 1 w.items; stop = w.stop }

pub record Reads (w v : Commands) (r : Option (Result Command Refusal)) : Type 0 where
  pub head : r ≡ head_of w
  pub rest : v ≡ rest_of w

abbrev pub length_of : Read → ℕ
length_of None = 0
length_of (Some (c, n)) = n

abbrev pub counted_with : Option (Result Command Refusal) → ℕ → ℕ
counted_with None n = n
counted_with (Some r) n = more n 1

abbrev pub command_of : Read → Result Command Refusal
command_of None = Err RunSheetRecord
command_of (Some (c, n)) = Ok c

abbrev pub next_of : ℕ → List ℕ → Option (Result Command Refusal)
next_of at bs = cond (length bs == 0) None (Some (command_of (command at bs)))

abbrev pub counted : List ℕ → ℕ → ℕ
counted bs n = cond (length bs == 0) n (min (n + 1) 18446744073709551615)

abbrev pub Onward : Option (Result Command Refusal) → ℕ → ℕ → ℕ → Type 0
Onward None a b to = Unit {0}
Onward (Some (Err e)) a b to = Unit {0}
Onward (Some (Ok c)) a b to = (a < b) × (b ≤ to)
