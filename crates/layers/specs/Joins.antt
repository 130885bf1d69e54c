-- What is to come in a join.
--   behind es g c   the records es with the ending g, and after a clean end what c has to come
--   joined b c      what b has to come and, after its clean end, what c has
use Rattle.std.specs.Prelude.{List, ◌++◌, Some, None, Option}
use Rattle.event.specs.Feeds.{Coming}
use Rattle.event.specs.declared.events.Event.{Event}
use Rattle.event.specs.declared.faults.Fault.{Fault}

abbrev pub behind : List Event → Option Fault → Coming → Coming
behind es None c = record { records = es ++ c.records; ending = c.ending }
behind es (Some f) c = record { records = es; ending = Some f }

abbrev pub joined : Coming → Coming → Coming
joined b c = behind b.records b.ending c
