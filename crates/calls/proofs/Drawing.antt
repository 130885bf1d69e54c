-- How each line of a draw goes.
use Rattle.std.proofs.Common.{◌≡◌, ℕ, ◌+◌, ◌<◌, ◌≤◌, true, false, cond, leb, List, length, Some, None, Option, sym, ap, inl, inr, arith, Ok, Err}
use Rattle.std.proofs.lemmas.Bool.{cases_Bool, le-leb, le-ltb, lt-leb, lt-ltb, leb-false}
use Rattle.event.specs.declared.faults.Fault.{Fault}
use Rattle.event.specs.Feeds.{Coming, seen}
use Rattle.event.specs.Numbers.Answer.{did, refused, refused_with}
use Rattle.event.specs.Sinks.{Held, more}
use Rattle.event.specs.Spans.{ended}
use Rattle.event.specs.declared.events.Event.{Event}
use Rattle.event.specs.declared.modes.Mode.TheVariants.{Off, OnReceive}
use Rattle.event.specs.declared.modes.Trigger.TheVariants.{Receive, Start}
use Rattle.tables.specs.declared.elements.Kept.{Kept}
use Rattle.tables.specs.declared.elements.UsedId.{UsedId}
use Rattle.calls.specs.declared.answers.Drawn.TheVariants as drawn
use Rattle.calls.specs.Draws.{Draw, Outcome, draws, draws_at, keeps, known, marked, marked_as, no_id_place, on_start, receives, telling, tells_now, with_kept, with_used}
use Rattle.calls.specs.Follows.{mode_of}
use Rattle.tables.specs.Elements.{dispatched, earlier, has_id, id_before, kept_of, name_of}
use Rattle.calls.specs.State.{State, ids}
use Rattle.tables.specs.Tables.{placed, sorted}
use Rattle.tables.proofs.Sorting.{id_placed_sorted}

module _ (k : Kept) (w : State) (h : Held) where
  pub keeps_full : w.places ≤ length w.kept → ◌≡◌ {A = Outcome} (refused 22, w, h) (keeps k w h)
  keeps_full l = rw (le-leb w.places (length w.kept) l)

  pub keeps_unplaced : length w.kept < w.places → no_id_place k w ≡ true → ◌≡◌ {A = Outcome} (refused 23, w, h) (keeps k w h)
  keeps_unplaced l e = rw (lt-leb w.places (length w.kept) l, e)

  pub keeps_done : length w.kept < w.places → no_id_place k w ≡ false → ◌≡◌ {A = Outcome} (did drawn.Kept, with_kept w (placed earlier k w.kept), h) (keeps k w h)
  keeps_done l e = rw (lt-leb w.places (length w.kept) l, e)

-- a place for the id of an event that has one
pub id_room : (k : Kept) (w : State) → no_id_place k w ≡ false → length w.used + ids w.kept ≤ w.id_places → length w.used + (ids w.kept + cond (has_id k) 1 0) ≤ w.id_places
id_room k w e l =
    elim (cases_Bool (has_id k)) [
      | inl t ↦
          let f : leb w.id_places (length w.used + ids w.kept) ≡ false = rw t at e in
          rw t (omega (arith, leb-false w.id_places (length w.used + ids w.kept) f))
      | inr f ↦ rw f (omega arith)
    ]

pub marked_none : (k : Kept) (u : List UsedId) → k.id ≡ None → marked k u ≡ u
marked_none k u e = rw e

pub no_id : (k : Kept) → k.id ≡ None → ◌≡◌ {A = ℕ} (cond (has_id k) 1 0) 0
no_id k e = rw e

pub marked_sorted_as : (o : Option ℕ) (s : ℕ) (u : List UsedId) → sorted id_before u ≡ true → sorted id_before (marked_as o s u) ≡ true
marked_sorted_as None s u h = h
marked_sorted_as (Some i) s u h = id_placed_sorted (name_of s i) u h

pub marked_sorted : (k : Kept) (u : List UsedId) → sorted id_before u ≡ true → sorted id_before (marked k u) ≡ true
marked_sorted k u h = marked_sorted_as k.id k.stream u h

-- an active event
module _ (k : Kept) (w : State) (h : Held) where
  pub tells_unplaced : no_id_place k w ≡ true → ◌≡◌ {A = Outcome} (refused 23, w, h) (tells_now k w h)
  tells_unplaced e = rw e

  pub tells_full : no_id_place k w ≡ false → h.free ≡ 0 → ◌≡◌ {A = Outcome} (refused 24, w, h) (tells_now k w h)
  tells_full e z = rw (e, le-ltb 0 h.free (omega arith))

  pub tells_done : no_id_place k w ≡ false → 0 < h.free → ◌≡◌ {A = Outcome} (did drawn.Dispatched, with_used w (marked k w.used), more h (dispatched w.playhead Start k)) (tells_now k w h)
  tells_done e z = rw (e, lt-ltb 0 h.free z)

  pub start_over : ended k.span w.playhead.ms ≡ true → ◌≡◌ {A = Outcome} (did drawn.Over, w, h) (on_start k w h)
  start_over e = rw e

  pub start_repeat : ended k.span w.playhead.ms ≡ false → known k w ≡ true → ◌≡◌ {A = Outcome} (did drawn.Repeat, w, h) (on_start k w h)
  start_repeat e f = rw (e, f)

-- by the stream and its mode
module _ (e : Event) (w : State) (h : Held) where
  pub receives_unlisted : e.stream ≡ None → ◌≡◌ {A = Outcome} (did drawn.Passed, w, h) (receives e w h)
  receives_unlisted n = rw n

  pub receives_off : (s : ℕ) → e.stream ≡ Some s → mode_of w s ≡ Off → ◌≡◌ {A = Outcome} (did drawn.Passed, w, h) (receives e w h)
  receives_off s n m = rw (n, m)

  pub receives_at_once : (s : ℕ) → e.stream ≡ Some s → mode_of w s ≡ OnReceive → telling (dispatched w.playhead Receive (kept_of s e)) w w h ≡ receives e w h
  receives_at_once s n m = rw (n, m)

-- by what a look shows
module _ (c : Coming) (w : State) (h : Held) where
  pub draws_clean : seen c ≡ Ok None → ◌≡◌ {A = Draw} (did drawn.End, w, h, c) (draws c w h)
  draws_clean e = ap (λ l. draws_at l c w h) (sym e)

  pub draws_broken : (f : Fault) → seen c ≡ Err f → ◌≡◌ {A = Draw} (refused_with 26 f, w, h, c) (draws c w h)
  draws_broken f e = ap (λ l. draws_at l c w h) (sym e)
