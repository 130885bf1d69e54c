-- Message places set aside: no call looks at them.
use Rattle.std.proofs.Common.{◌≡◌, ℕ, zero, suc, ◌+◌, Bool, not, ◌&&◌, ltb, leb, List, [], ◌∷◌, map, length, drop, Some, None, filter, Option, sym, refl, ap, ◌∙◌, inl, inr, Ok, Err}
use Rattle.std.proofs.lemmas.List.{length-map, map-append}
use Rattle.std.proofs.lemmas.Bool.{cases_Bool}
use Rattle.event.specs.declared.dispatches.Dispatch.{Dispatch}
use Rattle.event.specs.declared.events.Event.{Event}
use Rattle.event.specs.declared.modes.Mode.{Mode}
use Rattle.event.specs.declared.modes.Mode.TheVariants.{Off, OnReceive, OnStart}
use Rattle.event.specs.declared.modes.Trigger.{Trigger}
use Rattle.event.specs.declared.modes.Trigger.TheVariants.{Receive, Start}
use Rattle.event.specs.declared.times.Time.{Time}
use Rattle.event.specs.Feeds.{Coming, Look, seen}
use Rattle.event.specs.Sinks.{Held}
use Rattle.event.specs.Spans.{ended}
use Rattle.event.specs.Times.{latest, time}
use Rattle.tables.specs.declared.elements.Kept.{Kept}
use Rattle.tables.specs.declared.elements.UsedId.{UsedId}
use Rattle.calls.specs.Draws.{Outcome, draws_at, in_mode_of, keeps, known, known_as, marked, no_id_place, on_start, receives_in, telling, tells_now, with_used}
use Rattle.tables.specs.Elements.{active_at, dispatched, earlier, has_id, kept_of, name_of, named, starts}
use Rattle.tables.specs.Picks.{arrived_in}
use Rattle.calls.specs.Follows.{is_off, mode_of}
use Rattle.tables.specs.Picks.{kept_in}
use Rattle.calls.specs.Plays.{due, marked_all, moved, reach, reach_before, told_by, told_to}
use Rattle.tables.specs.Picks.{start_of, starts_in}
use Rattle.calls.specs.Runs.{Call, World, after, runs, world}
use Rattle.calls.specs.Runs.CallOn.{draw, play, seek, follow, leave, evict}
use Rattle.tables.specs.Picks.{at_time}
use Rattle.calls.specs.State.{State, ids}
use Rattle.calls.specs.Stops.{Alike, Same, bare_dispatch, bare_event, bare_kept}
use Rattle.calls.specs.Stops.Alike.{itself, drawing}
use Rattle.calls.specs.Stops.Same.{records, ends, faults}
use Rattle.tables.specs.Tables.{fails, none, placed, without}

abbrev pub bare_state : State → State
bare_state w = record { streams = w.streams; playhead = w.playhead; modes = w.modes; kept = map bare_kept w.kept; used = w.used; places = w.places; id_places = w.id_places }

abbrev pub bare_held : Held → Held
bare_held h = record { told = map bare_dispatch h.told; free = h.free }

abbrev pub bare_world : World → World
bare_world w = world (bare_state w.player) (bare_held w.sink)

-- a feed that shows the record with its message's place set aside
abbrev pub shown : Look → Coming
shown (Ok (Some e)) = record { records = bare_event e ∷ []; ending = None }
shown (Ok None) = record { records = []; ending = None }
shown (Err f) = record { records = []; ending = None }

abbrev pub bare_call : Call → Call
bare_call (draw c) = draw (shown (seen c))
bare_call (play t) = play t
bare_call (seek t) = seek t
bare_call (follow s m) = follow s m
bare_call (leave s) = leave s
bare_call (evict a b) = evict a b

-- a test that f does not change
module _ {X : Type 0} (f : X → X) (p : X → Bool) (same : (x : X) → p (f x) ≡ p x) where
  kept_map : (xs : List X) → filter p (map f xs) ≡ map f (filter p xs)
  kept_map [] = refl
  kept_map (x ∷ xs) =
      let ih = kept_map xs in
      elim (cases_Bool (p x)) [ inl t ↦ rw (same x, t) (ap (λ l. f x ∷ l) ih) | inr t ↦ rw (same x, t) ih ]

  none_map : (xs : List X) → none p (map f xs) ≡ none p xs
  none_map [] = refl
  none_map (x ∷ xs) = rw (same x) (ap (λ b. not (p x) && b) (none_map xs))

placed_map : (k : Kept) (ks : List Kept) → placed earlier (bare_kept k) (map bare_kept ks) ≡ map bare_kept (placed earlier k ks)
placed_map k [] = refl
placed_map k (j ∷ ks) =
    let ih = placed_map k ks in
    elim (cases_Bool (earlier k j)) [ inl t ↦ rw t | inr t ↦ rw t (ap (λ l. bare_kept j ∷ l) ih) ]

drop_map : {X : Type 0} (f : X → X) (n : ℕ) (xs : List X) → drop n (map f xs) ≡ map f (drop n xs)
drop_map f zero xs = refl
drop_map f (suc n) [] = refl
drop_map f (suc n) (x ∷ xs) = drop_map f n xs

marked_map : (ks : List Kept) (u : List UsedId) → marked_all (map bare_kept ks) u ≡ marked_all ks u
marked_map [] u = refl
marked_map (k ∷ ks) u = marked_map ks (marked k u)

reach_before_map : (ks : List Kept) (t : ℕ) → reach_before (map bare_kept ks) t ≡ reach_before ks t
reach_before_map [] t = refl
reach_before_map (k ∷ ks) t = refl

reach_map : (w : State) (free t : ℕ) → reach (bare_state w) free t ≡ reach w free t
reach_map w free t =
    ap (λ ks. reach_before (drop free ks) t) (kept_map bare_kept (starts_in w.playhead.ms t) (λ _. refl) w.kept)
    ∙ ap (λ ks. reach_before ks t) (drop_map bare_kept free (due w t))
    ∙ reach_before_map (drop free (due w t)) t

told_map : (f : Kept → Time) → ((k : Kept) → f (bare_kept k) ≡ f k) → (ks : List Kept) → map bare_dispatch (map (told_by f) ks) ≡ map (told_by f) (map bare_kept ks)
told_map f same [] = refl
told_map f same (k ∷ ks) = rw (same k) (ap (λ l. bare_dispatch (told_by f k) ∷ l) (told_map f same ks))

-- a draw
abbrev bare_outcome : Outcome → Outcome
bare_outcome o = (o.0, bare_state o.1, bare_held o.2)

module _ (w : State) (h : Held) where
  known_as_map : (o : Option ℕ) (s : ℕ) → known_as o s (bare_state w) ≡ known_as o s w
  known_as_map None s = refl
  known_as_map (Some i) s = rw (none_map bare_kept (named (name_of s i)) (λ _. refl) w.kept)

  known_map : (k : Kept) → known (bare_kept k) (bare_state w) ≡ known k w
  known_map k = known_as_map k.id k.stream

  no_place_map : (k : Kept) → no_id_place (bare_kept k) (bare_state w) ≡ no_id_place k w
  no_place_map k =
      let same : ids (map bare_kept w.kept) ≡ ids w.kept = ap length (kept_map bare_kept has_id (λ _. refl) w.kept) ∙ length-map (filter has_id w.kept) bare_kept in
      ap (λ n. has_id k && leb w.id_places (length w.used + n)) same

  telling_map : (t : Time) (m : Trigger) (k : Kept) (v : State) → telling (dispatched t m (bare_kept k)) (bare_state v) (bare_state w) (bare_held h) ≡ bare_outcome (telling (dispatched t m k) v w h)
  telling_map t m k v =
      let d : Dispatch = dispatched t m k in
      elim (cases_Bool (ltb 0 h.free)) [
        | inl e ↦ rw (e, map-append bare_dispatch h.told (d ∷ []))
        | inr e ↦ rw e
      ]

  tells_map : (k : Kept) → tells_now (bare_kept k) (bare_state w) (bare_held h) ≡ bare_outcome (tells_now k w h)
  tells_map k =
      elim (cases_Bool (no_id_place k w)) [
        | inl e ↦ rw (no_place_map k, e)
        | inr e ↦ rw (no_place_map k, e) (telling_map w.playhead Start k (with_used w (marked k w.used)))
      ]

  keeps_map : (k : Kept) → keeps (bare_kept k) (bare_state w) (bare_held h) ≡ bare_outcome (keeps k w h)
  keeps_map k =
      let long = length-map w.kept bare_kept in
      elim (cases_Bool (leb w.places (length w.kept))) [
        | inl e ↦ rw (long, e)
        | inr e ↦ elim (cases_Bool (no_id_place k w)) [
          | inl f ↦ rw (long, e, no_place_map k, f)
          | inr f ↦ rw (long, e, no_place_map k, f, placed_map k w.kept)
        ]
      ]

  start_map : (k : Kept) → on_start (bare_kept k) (bare_state w) (bare_held h) ≡ bare_outcome (on_start k w h)
  start_map k =
      elim (cases_Bool (ended k.span w.playhead.ms)) [
        | inl e ↦ rw e
        | inr e ↦ elim (cases_Bool (known k w)) [
          | inl f ↦ rw (e, known_map k, f)
          | inr f ↦ elim (cases_Bool (leb (starts k) w.playhead.ms)) [ inl g ↦ rw (e, known_map k, f, g) (tells_map k) | inr g ↦ rw (e, known_map k, f, g) (keeps_map k) ]
        ]
      ]

  mode_map : (m : Mode) (k : Kept) → in_mode_of m (bare_kept k) (bare_state w) (bare_held h) ≡ bare_outcome (in_mode_of m k w h)
  mode_map Off k = refl
  mode_map OnReceive k = telling_map w.playhead Receive k w
  mode_map OnStart k = start_map k

  received_map : (o : Option ℕ) (e : Event) → receives_in o (bare_event e) (bare_state w) (bare_held h) ≡ bare_outcome (receives_in o e w h)
  received_map None e = refl
  received_map (Some s) e = mode_map (mode_of w s) (kept_of s e)

drawn_map : (l : Look) (c : Coming) (w : World) → bare_world (world (draws_at l c w.player w.sink).1 (draws_at l c w.player w.sink).2) ≡ after (draw (shown l)) (bare_world w)
drawn_map (Ok (Some e)) c w = ap (λ o. world o.1 o.2) (sym (received_map w.player w.sink e.stream e))
drawn_map (Ok None) c w = refl
drawn_map (Err f) c w = refl

-- kept events told, or gone
module _ (p : Kept → Bool) (same : (k : Kept) → p (bare_kept k) ≡ p k) (w : World) where
  gone_map : map bare_kept (without p w.player.kept) ≡ without p (map bare_kept w.player.kept)
  gone_map = sym (kept_map bare_kept (fails p) (λ k. ap not (same k)) w.player.kept)

  moved_map : (f : Kept → Time) → ((k : Kept) → f (bare_kept k) ≡ f k) → (t : Time) →
      bare_world (world (moved t p w.player) (told_to w.sink (map (told_by f) (filter p w.player.kept))))
      ≡ world (moved t p (bare_state w.player)) (told_to (bare_held w.sink) (map (told_by f) (filter p (map bare_kept w.player.kept))))
  moved_map f at t =
      let xs : List Kept = filter p w.player.kept in
      let ds : List Dispatch = map (told_by f) xs in
      rw (gone_map, map-append bare_dispatch w.sink.told ds, kept_map bare_kept p same w.player.kept, marked_map xs w.player.used, ← told_map f at xs, length-map ds bare_dispatch)

pub after_map : (c : Call) (w : World) → bare_world (after c w) ≡ after (bare_call c) (bare_world w)
after_map (draw c) w = drawn_map (seen c) c w
after_map (play t) w =
    let a : ℕ = w.player.playhead.ms in
    let u : ℕ = reach w.player w.sink.free t in
    elim (cases_Bool (ltb latest t)) [
      | inl e ↦ rw e
      | inr e ↦ elim (cases_Bool (ltb t a)) [
        | inl f ↦ rw (e, f)
        | inr f ↦ rw (e, f, reach_map w.player w.sink.free t) (moved_map (starts_in a u) (λ _. refl) w start_of (λ _. refl) (time u))
      ]
    ]
after_map (seek t) w =
    let long : length (filter (active_at t) (map bare_kept w.player.kept)) ≡ length (filter (active_at t) w.player.kept) =
    ap length (kept_map bare_kept (active_at t) (λ _. refl) w.player.kept) ∙ length-map (filter (active_at t) w.player.kept) bare_kept in
    elim (cases_Bool (ltb latest t)) [
      | inl e ↦ rw e
      | inr e ↦ elim (cases_Bool (ltb w.sink.free (length (filter (active_at t) w.player.kept)))) [
        | inl f ↦ rw (e, long, f)
        | inr f ↦ rw (e, long, f) (moved_map (active_at t) (λ _. refl) w (at_time (time t)) (λ _. refl) (time t))
      ]
    ]
after_map (follow s m) w =
    elim (cases_Bool (leb w.player.streams s)) [
      | inl e ↦ rw e
      | inr e ↦ elim (cases_Bool (is_off m)) [
        | inl f ↦ rw (e, f)
        | inr f ↦ elim (cases_Bool (is_off (mode_of w.player s))) [ inl g ↦ rw (e, f, g) | inr g ↦ rw (e, f, g) ]
      ]
    ]
after_map (leave s) w =
    elim (cases_Bool (leb w.player.streams s)) [
      | inl e ↦ rw e
      | inr e ↦ elim (cases_Bool (is_off (mode_of w.player s))) [ inl f ↦ rw (e, f) | inr f ↦ rw (e, f, gone_map (kept_in s) (λ _. refl) w) ]
    ]
after_map (evict a b) w = elim (cases_Bool (ltb b a)) [ inl e ↦ rw e | inr e ↦ rw (e, gone_map (arrived_in a b) (λ _. refl) w) ]

pub runs_map : (cs : List Call) (w : World) → bare_world (runs cs w) ≡ runs (map bare_call cs) (bare_world w)
runs_map [] w = refl
runs_map (c ∷ cs) w = runs_map cs (after c w) ∙ ap (runs (map bare_call cs)) (after_map c w)

shown_same : {a b : Look} → Same a b → shown a ≡ shown b
shown_same (records e) = ap (λ x. record { records = x ∷ []; ending = None }) e
shown_same ends = refl
shown_same (faults e) = refl

pub alike_map : {c d : Call} → Alike c d → bare_call c ≡ bare_call d
alike_map itself = refl
alike_map (drawing s) = ap draw (shown_same s)
