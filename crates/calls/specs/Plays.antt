-- Playing on from the playhead.
--   due w t           the kept events that start after the playhead and up to t, in order
--   reach w free t    how far a play to t comes: all the way where what is due fits the free places,
--                     else one millisecond before the start of the first due event for which no place is left
--   Furthest w free t u the furthest time up to t by which everything that starts fits the free places
--   told_to h ds      the sink with more dispatches told
--   told_by f k       the dispatch of an event at the position that f gives
--   at_start k        the dispatch of an event at its start
--   marked_all ks u   the used ids with those of the events among them
--   moved t p w       the player at t, without the kept events that pass p, their ids used
--   plays t w h       what a play answers and leaves: 20 past the latest time, 21 behind the playhead
use Rattle.std.specs.Prelude.{ℕ, ◌-◌, ◌<◌, ◌≤◌, Bool, cond, List, [], ◌∷◌, ◌++◌, map, length, drop, filter, nat_lt}
use Rattle.event.specs.declared.dispatches.Dispatch.{Dispatch}
use Rattle.event.specs.declared.modes.Trigger.TheVariants.{Start}
use Rattle.event.specs.declared.times.Time.{Time}
use Rattle.event.specs.Numbers.{Answer}
use Rattle.event.specs.Numbers.Answer.{did, refused}
use Rattle.event.specs.Sinks.{Held}
use Rattle.event.specs.Times.{latest, time}
use Rattle.tables.specs.declared.elements.Kept.{Kept}
use Rattle.tables.specs.declared.elements.UsedId.{UsedId}
use Rattle.calls.specs.declared.answers.Played.{Played}
use Rattle.calls.specs.Draws.{marked}
use Rattle.tables.specs.Elements.{dispatched, starts}
use Rattle.tables.specs.Picks.{start_of, starts_in}
use Rattle.calls.specs.State.{State}
use Rattle.tables.specs.Tables.{without}

abbrev pub due : State → ℕ → List Kept
due w t = filter (starts_in w.playhead.ms t) w.kept

abbrev pub reach_before : List Kept → ℕ → ℕ
reach_before [] t = t
reach_before (k ∷ ks) t = starts k - 1

abbrev pub reach : State → ℕ → ℕ → ℕ
reach w free t = reach_before (drop free (due w t)) t

pub record Furthest (w : State) (free t u : ℕ) : Type 0 where
  pub not_back : w.playhead.ms ≤ u
  pub not_past : u ≤ t
  pub fits : length (due w u) ≤ free
  pub none_further : (v : ℕ) → u < v → v ≤ t → free < length (due w v)

abbrev pub told_to : Held → List Dispatch → Held
told_to h ds = record { told = h.told ++ ds; free = h.free - length ds }

abbrev pub told_by : (Kept → Time) → Kept → Dispatch
told_by f k = dispatched (f k) Start k

abbrev pub at_start : Kept → Dispatch
at_start = told_by start_of

abbrev pub marked_all : List Kept → List UsedId → List UsedId
marked_all [] u = u
marked_all (k ∷ ks) u = marked_all ks (marked k u)

abbrev pub moved : Time → (Kept → Bool) → State → State
moved t p w = record {
  streams = w.streams;
  playhead = t;
  modes = w.modes;
  kept = without p w.kept;
  used = marked_all (filter p w.kept) w.used;
  places = w.places;
  id_places = w.id_places;
}

abbrev pub Play : Type 0
Play = Answer Played × State × Held

abbrev pub plays_to : ℕ → State → Held → Play
plays_to u w h = (
  did (record { told = length (due w u); playhead = time u }),
  moved (time u) (starts_in w.playhead.ms u) w,
  told_to h (map at_start (due w u)),
)

abbrev pub plays : ℕ → State → Held → Play
plays t w h =
    cond (nat_lt latest t) (refused 20, w, h)
    (cond (nat_lt t w.playhead.ms) (refused 21, w, h)
    (plays_to (reach w h.free t) w h))
