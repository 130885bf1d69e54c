-- What a record list holds.
--   held_in l   the dispatches at the front of its slots, and the slots that are not used
use Rattle.std.specs.Prelude.{◌-◌, length, take}
use Rattle.event.specs.Sinks.{Held}
use Rattle.sink.specs.declared.lists.RecordList.{RecordList}

abbrev pub held_in : RecordList → Held
held_in l = record { told = take l.count l.slots.now; free = length l.slots.now - l.count }
