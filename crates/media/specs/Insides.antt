-- Where the messages of a feed's records stand.
--   Inside a b e      the message of the event e stands from the place a on, and ends at the place b or before
--   AllInside a b c   so do the messages of all records that come
--   Within at t       the message of the event that a turn at a place gives stands within its record
use Rattle.std.specs.Prelude.{ℕ, ◌+◌, ◌≤◌}
use Rattle.std.specs.List.{AllByRecursion}
use Rattle.event.specs.Feeds.{Coming}
use Rattle.event.specs.declared.events.Event.{Event}
use Rattle.event.specs.declared.faults.Fault.{Fault}
use Rattle.media.specs.declared.walks.Turn.{Turn}
use Rattle.media.specs.declared.walks.Turn.TheVariants.{Clean, Broken, Gives, Passes}

abbrev pub Inside : ℕ → ℕ → Event → Type 0
Inside a b e = (a ≤ e.message.place) × (e.message.place + e.message.length ≤ b)

abbrev pub AllInside : ℕ → ℕ → Coming → Type 0
AllInside a b c = AllByRecursion (Inside a b) c.records

abbrev pub Within : {S : Type 0} → ℕ → Turn Event Fault S → Type 0
Within at Clean = Unit {0}
Within at (Broken f) = Unit {0}
Within at (Gives e s k) = Inside at (at + k) e
Within at (Passes s k) = Unit {0}
