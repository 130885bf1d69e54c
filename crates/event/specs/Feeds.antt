-- What is still to come from a feed.
--   Coming   the records, and the fault that stands behind them, where the end is not clean
--   Look     what a look shows: a record, none at a clean end, or the fault
--   seen     the first record, or the ending where none is left
--   rest     all but the first record
use Rattle.std.specs.Prelude.{List, [], ◌∷◌, drop, Some, None, Option, Ok, Err, Result}
use Rattle.event.specs.declared.events.Event.{Event}
use Rattle.event.specs.declared.faults.Fault.{Fault}

pub record Coming : Type 0 where
  pub records : List Event
  pub ending : Option Fault

abbrev pub Look : Type 0
Look = Result (Option Event) Fault

abbrev pub first : List Event → Option Fault → Look
first [] None = Ok None
first [] (Some f) = Err f
first (e ∷ es) ending = Ok (Some e)

abbrev pub seen : Coming → Look
seen c = first c.records c.ending

abbrev pub rest : Coming → Coming
rest c = record { records = drop 1 c.records; ending = c.ending }
