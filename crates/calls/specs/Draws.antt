-- Drawing from a feed.
--   known k w            the event's id is used or kept in its stream; an event without an id is never known
--   no_id_place k w      the event has an id, and used ids and ids of kept events have taken all places
--   marked k u           the used ids with the event's id among them
--   with_used w u        the player with other used ids
--   with_kept w ks       the player with other kept events
--   Outcome              the answer, the player and the sink after a record
--   telling d a w h      one more dispatch, and the player is then a; refused with 24 where the sink has no free place
--   keeps k w h          keeping an event: 22 where every place is taken, 23 where its id has none
--   tells_now k w h      dispatching an active event at the playhead: 23, 24
--   on_start k w h       lines 3 to 6: over, repeat, active, else kept
--   in_mode_of m k w h   by the stream's mode: passed, on receive, or on start
--   receives e w h       the first fitting line for a record
--   stepped a c          what is to come after the answer: a record that was not refused is gone
--   draws c w h          what a draw answers, and leaves of the player, the sink and what is to come
use Rattle.std.specs.Prelude.{ℕ, ◌+◌, Bool, false, cond, ◌&&◌, ◌||◌, List, length, Some, None, Option, nat_le, nat_lt, Ok, Err}
use Rattle.event.specs.declared.dispatches.Dispatch.{Dispatch}
use Rattle.event.specs.declared.events.Event.{Event}
use Rattle.event.specs.declared.modes.Mode.{Mode}
use Rattle.event.specs.declared.modes.Mode.TheVariants.{Off, OnReceive, OnStart}
use Rattle.event.specs.declared.modes.Trigger.TheVariants.{Receive, Start}
use Rattle.event.specs.Feeds.{Coming, Look, rest, seen}
use Rattle.event.specs.Numbers.{Answer}
use Rattle.event.specs.Numbers.Answer.{did, refused, refused_with}
use Rattle.event.specs.Sinks.{Held, more}
use Rattle.event.specs.Spans.{active, ended}
use Rattle.tables.specs.declared.elements.Kept.{Kept}
use Rattle.tables.specs.declared.elements.UsedId.{UsedId}
use Rattle.calls.specs.declared.answers.Drawn.{Drawn}
use Rattle.calls.specs.declared.answers.Drawn.TheVariants as drawn
use Rattle.tables.specs.Elements.{dispatched, earlier, has_id, id_before, kept_of, name_of, named}
use Rattle.calls.specs.Follows.{mode_of}
use Rattle.calls.specs.State.{State, ids}
use Rattle.tables.specs.Tables.{any, placed, tied}

abbrev pub known_as : Option ℕ → ℕ → State → Bool
known_as None s w = false
known_as (Some i) s w = any (tied id_before (name_of s i)) w.used || any (named (name_of s i)) w.kept

abbrev pub known : Kept → State → Bool
known k w = known_as k.id k.stream w

abbrev pub no_id_place : Kept → State → Bool
no_id_place k w = has_id k && nat_le w.id_places (length w.used + ids w.kept)

abbrev pub marked_as : Option ℕ → ℕ → List UsedId → List UsedId
marked_as None s u = u
marked_as (Some i) s u = placed id_before (name_of s i) u

abbrev pub marked : Kept → List UsedId → List UsedId
marked k u = marked_as k.id k.stream u

abbrev pub with_used : State → List UsedId → State
with_used w u = record { streams = w.streams; playhead = w.playhead; modes = w.modes; kept = w.kept; used = u; places = w.places; id_places = w.id_places }

abbrev pub with_kept : State → List Kept → State
with_kept w ks = record { streams = w.streams; playhead = w.playhead; modes = w.modes; kept = ks; used = w.used; places = w.places; id_places = w.id_places }

abbrev pub Outcome : Type 0
Outcome = Answer Drawn × State × Held

abbrev pub telling : Dispatch → State → State → Held → Outcome
telling d after w h = cond (nat_lt 0 h.free) (did drawn.Dispatched, after, more h d) (refused 24, w, h)

abbrev pub keeps : Kept → State → Held → Outcome
keeps k w h =
    cond (nat_le w.places (length w.kept)) (refused 22, w, h)
    (cond (no_id_place k w) (refused 23, w, h)
    (did drawn.Kept, with_kept w (placed earlier k w.kept), h))

abbrev pub tells_now : Kept → State → Held → Outcome
tells_now k w h =
    cond (no_id_place k w) (refused 23, w, h)
    (telling (dispatched w.playhead Start k) (with_used w (marked k w.used)) w h)

abbrev pub on_start : Kept → State → Held → Outcome
on_start k w h =
    cond (ended k.span w.playhead.ms) (did drawn.Over, w, h)
    (cond (known k w) (did drawn.Repeat, w, h)
    (cond (active k.span w.playhead.ms) (tells_now k w h) (keeps k w h)))

abbrev pub in_mode_of : Mode → Kept → State → Held → Outcome
in_mode_of Off k w h = (did drawn.Passed, w, h)
in_mode_of OnReceive k w h = telling (dispatched w.playhead Receive k) w w h
in_mode_of OnStart k w h = on_start k w h

abbrev pub receives_in : Option ℕ → Event → State → Held → Outcome
receives_in None e w h = (did drawn.Passed, w, h)
receives_in (Some s) e w h = in_mode_of (mode_of w s) (kept_of s e) w h

abbrev pub receives : Event → State → Held → Outcome
receives e w h = receives_in e.stream e w h

abbrev pub stepped : Answer Drawn → Coming → Coming
stepped (did d) c = rest c
stepped (refused n) c = c
stepped (refused_with n f) c = c

abbrev pub Draw : Type 0
Draw = Answer Drawn × State × Held × Coming

abbrev pub takes : Outcome → Coming → Draw
takes o c = (o.0, o.1, o.2, stepped o.0 c)

abbrev pub draws_at : Look → Coming → State → Held → Draw
draws_at (Ok None) c w h = (did drawn.End, w, h, c)
draws_at (Err f) c w h = (refused_with 26 f, w, h, c)
draws_at (Ok (Some e)) c w h = takes (receives e w h) c

abbrev pub draws : Coming → State → Held → Draw
draws c w h = draws_at (seen c) c w h
