-- Kept events and used ids.
--   kept_of s e        an event as one of the stream s
--   starts k           the start, in milliseconds
--   earlier x y        by start, then by arrival
--   id_before x y      by stream, then by id
--   same_id o i        an id that is there and is i
--   named n k          an event of the name's stream with its id
--   has_id k           an event with an id
--   active_at t k      the event is active at t
--   name_of s i        the id i in the stream s
--   name k             the id of an event in its stream, if it has one
--   used_as s i n      a used id that is this one
--   kept_as s i k      a kept event with this id, of this stream
--   dispatched t m k   the dispatch of an event at t
use Rattle.std.specs.Prelude.{ℕ, Bool, false, cond, ◌&&◌, is_some, Some, None, Option, option_map, ◌==◌, nat_lt}
use Rattle.event.specs.declared.dispatches.Dispatch.{Dispatch}
use Rattle.event.specs.declared.events.Event.{Event}
use Rattle.event.specs.declared.modes.Trigger.{Trigger}
use Rattle.event.specs.declared.times.Time.{Time}
use Rattle.event.specs.Spans.{active}
use Rattle.tables.specs.Tables.{tied}
use Rattle.tables.specs.declared.elements.Kept.{Kept}
use Rattle.tables.specs.declared.elements.UsedId.{UsedId}

abbrev pub kept_of : ℕ → Event → Kept
kept_of s e = record { stream = s; id = e.id; span = e.span; arrival = e.arrival; message = e.message }

abbrev pub starts : Kept → ℕ
starts k = k.span.start.ms

abbrev pub earlier : Kept → Kept → Bool
earlier x y = cond (starts x == starts y) (nat_lt x.arrival.ms y.arrival.ms) (nat_lt (starts x) (starts y))

abbrev pub id_before : UsedId → UsedId → Bool
id_before x y = cond (x.stream == y.stream) (nat_lt x.id y.id) (nat_lt x.stream y.stream)

abbrev pub same_id : Option ℕ → ℕ → Bool
same_id None i = false
same_id (Some j) i = j == i

abbrev pub named : UsedId → Kept → Bool
named n k = same_id k.id n.id && k.stream == n.stream

abbrev pub has_id : Kept → Bool
has_id k = is_some k.id

abbrev pub dispatched : Time → Trigger → Kept → Dispatch
dispatched t m k = record { position = t; trigger = m; stream = k.stream; id = k.id; span = k.span; message = k.message }

abbrev pub active_at : ℕ → Kept → Bool
active_at t k = active k.span t

abbrev pub name_of : ℕ → ℕ → UsedId
name_of s i = record { stream = s; id = i }

abbrev pub name : Kept → Option UsedId
name k = option_map (name_of k.stream) k.id

abbrev pub used_as : ℕ → ℕ → UsedId → Bool
used_as s i = tied id_before (name_of s i)

abbrev pub kept_as : ℕ → ℕ → Kept → Bool
kept_as s i = named (name_of s i)
