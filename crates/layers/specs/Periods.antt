-- What is to come in a period.
--   fits p e        neither the start nor the arrival, each p milliseconds later, passes the latest time
--   moved p e       the event with its start and its arrival p milliseconds later
--   past_latest e   the fault of a period at an event that does not fit: 10, at its message's place
--   fitting p es    the events up to the first that does not fit
--   stop p es g     the fault of the first event that does not fit, or the ending g where all fit
--   in_period p c   what is to come, each record moved, up to the first that does not fit
--   without p es c the rest of c where the first of es fits, else c
--   removes p c     what a step of the period leaves of the feed below: where the first record does not fit, all of it
use Rattle.std.specs.Prelude.{ℕ, ◌+◌, Bool, cond, ◌&&◌, List, [], ◌∷◌, map, nat_le, Some, Option}
use Rattle.event.specs.Feeds.{Coming, rest}
use Rattle.event.specs.Times.{latest, time}
use Rattle.event.specs.declared.events.Event.{Event}
use Rattle.event.specs.declared.faults.Defect.TheVariants.{PastLatest}
use Rattle.event.specs.declared.faults.Fault.{Fault}
use Rattle.event.specs.declared.faults.Layer.TheVariants.{Period}

abbrev pub fits : ℕ → Event → Bool
fits p e = nat_le (e.span.start.ms + p) latest && nat_le (e.arrival.ms + p) latest

abbrev pub moved : ℕ → Event → Event
moved p e = record {
  stream = e.stream;
  id = e.id;
  span = record { start = time (e.span.start.ms + p); duration = e.span.duration };
  arrival = time (e.arrival.ms + p);
  message = e.message;
}

abbrev pub past_latest : Event → Fault
past_latest e = record { defect = PastLatest; place = e.message.place; layer = Period }

abbrev pub fitting : ℕ → List Event → List Event
fitting p [] = []
fitting p (e ∷ es) = cond (fits p e) (e ∷ fitting p es) []

abbrev pub stop : ℕ → List Event → Option Fault → Option Fault
stop p [] g = g
stop p (e ∷ es) g = cond (fits p e) (stop p es g) (Some (past_latest e))

abbrev pub in_period : ℕ → Coming → Coming
in_period p c = record { records = map (moved p) (fitting p c.records); ending = stop p c.records c.ending }

abbrev pub without : ℕ → List Event → Coming → Coming
without p [] c = c
without p (e ∷ es) c = cond (fits p e) (rest c) c

abbrev pub removes : ℕ → Coming → Coming
removes p c = without p c.records c
