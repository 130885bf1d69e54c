-- Runs whose plays are made in stops.
--   bare_message m         a message with its place set aside
--   bare_event e           an event with its message's place set aside; so bare_kept a kept event, and bare_dispatch a dispatch
--   Same a b               two looks find the same: records that are equal with message places set aside, both a clean end, or faults of one number
--   Alike c d              one call in place of another: the call itself, or a draw that finds the same
--   UpTo t u               a stop at u on the way to t is not past t
--   Stopped cs ds          ds is cs with each draw in place of one that finds the same, and with any plays, none past t, before a play to t that is not past the latest time
--   Agree w v              equal playheads, modes and used ids; equal kept events and lists told, message places set aside
--   StopsChangeNothing w   every run from w and the run in stops from a world that began as w agree
use Rattle.std.specs.Prelude.{◌≡◌, ℕ, ◌≤◌, List, [], ◌∷◌, ◌++◌, map, Some, None, Ok, Err}
use Rattle.std.specs.List.{AllByRecursion}
use Rattle.event.specs.declared.dispatches.Dispatch.{Dispatch}
use Rattle.event.specs.declared.events.Event.{Event}
use Rattle.event.specs.declared.events.Message.{Message}
use Rattle.event.specs.declared.faults.Fault.{Fault}
use Rattle.event.specs.Feeds.{Coming, Look, seen}
use Rattle.event.specs.Numbers.{defect_number}
use Rattle.event.specs.Times.{latest}
use Rattle.tables.specs.declared.elements.Kept.{Kept}
use Rattle.calls.specs.Runs.{Call, New, World, runs}
use Rattle.calls.specs.Runs.CallOn.{draw, play}

abbrev pub bare_message : Message → Message
bare_message m = record { place = 0; length = m.length; base64 = m.base64 }

abbrev pub bare_event : Event → Event
bare_event e = record { stream = e.stream; id = e.id; span = e.span; arrival = e.arrival; message = bare_message e.message }

abbrev pub bare_kept : Kept → Kept
bare_kept k = record { stream = k.stream; id = k.id; span = k.span; arrival = k.arrival; message = bare_message k.message }

abbrev pub bare_dispatch : Dispatch → Dispatch
bare_dispatch d = record { position = d.position; trigger = d.trigger; stream = d.stream; id = d.id; span = d.span; message = bare_message d.message }

pub data Same : Look → Look → Type 0 where
  records : {e f : Event} → bare_event e ≡ bare_event f → Same (Ok (Some e)) (Ok (Some f))
  ends : Same (Ok None) (Ok None)
  faults : {f g : Fault} → defect_number f.defect ≡ defect_number g.defect → Same (Err f) (Err g)

pub data Alike : Call → Call → Type 0 where
  itself : {c : Call} → Alike c c
  drawing : {c d : Coming} → Same (seen c) (seen d) → Alike (draw c) (draw d)

abbrev pub UpTo : ℕ → ℕ → Type 0
UpTo t u = u ≤ t

pub data Stopped : List Call → List Call → Type 0 where
  none : Stopped [] []
  alike : {c d : Call} {cs ds : List Call} → Alike c d → Stopped cs ds → Stopped (c ∷ cs) (d ∷ ds)
  stops : {t : ℕ} (ts : List ℕ) {cs ds : List Call} → t ≤ latest → AllByRecursion (UpTo t) ts → Stopped cs ds → Stopped (play t ∷ cs) (map play ts ++ (play t ∷ ds))

pub record Agree (w v : World) : Type 0 where
  pub playhead : w.player.playhead ≡ v.player.playhead
  pub modes : w.player.modes ≡ v.player.modes
  pub kept : map bare_kept w.player.kept ≡ map bare_kept v.player.kept
  pub used : w.player.used ≡ v.player.used
  pub told : map bare_dispatch w.sink.told ≡ map bare_dispatch v.sink.told

abbrev pub StopsChangeNothing : World → Type 0
StopsChangeNothing w =
    (v : World) → New w.player.streams w.player.places w.player.id_places w.sink.free v →
    (cs ds : List Call) → Stopped cs ds → Agree (runs cs w) (runs ds v)
