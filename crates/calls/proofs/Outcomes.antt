-- What each call can do to a player and its sink.
use Rattle.std.proofs.Common.{◌≡◌, ℕ, ◌<◌, ◌≤◌, Bool, true, false, cond, not, ◌&&◌, ltb, leb, List, [], ◌∷◌, map, length, drop, Some, None, filter, Option, refl, ap, ◌∙◌, inl, inr, arith, Ok, Err}
use Rattle.std.specs.List.{AllByRecursion}
use Rattle.std.proofs.ByRecursion.{All-drop, kept_by_passes}
use Rattle.std.proofs.lemmas.Bool.{cases_Bool, cond_both, eq-eqb, ltb-false}
use Rattle.std.proofs.lemmas.Bool.Decides.{nat_tests}
use Rattle.event.specs.declared.events.Event.{Event}
use Rattle.event.specs.declared.modes.Mode.{Mode}
use Rattle.event.specs.declared.modes.Mode.TheVariants.{Off, OnReceive, OnStart}
use Rattle.event.specs.declared.modes.Trigger.TheVariants.{Receive, Start}
use Rattle.event.specs.declared.times.Time.{Time}
use Rattle.event.specs.Feeds.{Coming, Look, seen}
use Rattle.event.specs.Numbers.Answer.{did}
use Rattle.event.specs.Sinks.{Held, more}
use Rattle.event.specs.Spans.{active, end_behind, ended}
use Rattle.event.specs.Times.{latest, time}
use Rattle.event.proofs.Clock.{ms_time}
use Rattle.tables.specs.declared.elements.Kept.{Kept}
use Rattle.calls.specs.declared.answers.Drawn.TheVariants as drawn
use Rattle.calls.specs.Draws.{Outcome, draws_at, in_mode_of, keeps, known, marked, no_id_place, on_start, receives_in, tells_now, with_kept, with_used}
use Rattle.tables.specs.Elements.{active_at, dispatched, earlier, kept_of, starts}
use Rattle.tables.specs.Picks.{arrived_in}
use Rattle.calls.specs.Follows.{in_mode, is_off, mode_of}
use Rattle.calls.specs.Leaves.{left}
use Rattle.calls.specs.Once.{leaves_it}
use Rattle.calls.specs.Plays.{Furthest, due, moved, plays_to, reach, reach_before, told_by, told_to}
use Rattle.tables.specs.Picks.{start_of, starts_in}
use Rattle.calls.specs.Runs.{Call, World, after, world}
use Rattle.calls.specs.Runs.CallOn.{draw, play, seek, follow, leave, evict}
use Rattle.tables.specs.Picks.{at_time}
use Rattle.calls.specs.Seeks.{seeks_to}
use Rattle.calls.specs.State.{State}
use Rattle.tables.specs.Tables.{placed, sorted, without}
use Rattle.calls.proofs.Reaching.{due_fits, none_further}

-- nothing changes; or an event is told at once, told and marked, or kept; or kept events are told, the playhead moves; or a stream's mode changes; or kept events go
pub data Way (w : World) (c : Call) : World → Type 0 where
  stays : Way w c w
  tells_at_once : (s : ℕ) (e : Event) → mode_of w.player s ≡ OnReceive →
      Way w c (world w.player (more w.sink (dispatched w.player.playhead Receive (kept_of s e))))
  tells_now_lem : (k : Kept) → known k w.player ≡ false → active_at w.player.playhead.ms k ≡ true →
      Way w c (world (with_used w.player (marked k w.player.used)) (more w.sink (dispatched w.player.playhead Start k)))
  keeps_it : (k : Kept) → known k w.player ≡ false → active_at w.player.playhead.ms k ≡ false →
      Way w c (world (with_kept w.player (placed earlier k w.player.kept)) w.sink)
  moves : (t : Time) (p : Kept → Bool) (f : Kept → Time) →
      ((k : Kept) → p k ≡ true → active_at (f k).ms k ≡ true) →
      ((k : Kept) → active_at w.player.playhead.ms k ≡ false → p k ≡ false → active_at t.ms k ≡ false) →
      Way w c (world (moved t p w.player) (told_to w.sink (map (told_by f) (filter p w.player.kept))))
  follows_it : (s : ℕ) (m : Mode) → is_off (mode_of w.player s) ≡ true → Way w c (world (in_mode s m w.player) w.sink)
  leaves_it_lem : (s : ℕ) → leaves_it s c w ≡ true → Way w c (world (left s w.player) w.sink)
  evicts_some : (a b : ℕ) → Way w c (world (with_kept w.player (without (arrived_in a b) w.player.kept)) w.sink)

-- the world that is left with an answer
pub record Goes {X : Type 0} (w : World) (c : Call) (o : X × State × Held) : Type 0 where
  pub goes : Way w c (world o.1 o.2)

-- a draw
module _ (w : World) (c : Call) where
  unmoved : {X : Type 0} (x : X) → Goes w c (x, w.player, w.sink)
  unmoved x = record { goes = stays }

  way_tells : (k : Kept) → known k w.player ≡ false → active_at w.player.playhead.ms k ≡ true → Goes w c (tells_now k w.player w.sink)
  way_tells k new on =
      elim (cases_Bool (no_id_place k w.player)) [
        | inl e ↦ rw e (unmoved _)
        | inr e ↦ rw e (elim (cases_Bool (ltb 0 w.sink.free)) [ inl f ↦ rw f (record { goes = tells_now_lem k new on }) | inr f ↦ rw f (unmoved _) ])
      ]

  way_keeps : (k : Kept) → known k w.player ≡ false → active_at w.player.playhead.ms k ≡ false → Goes w c (keeps k w.player w.sink)
  way_keeps k new off =
      elim (cases_Bool (leb w.player.places (length w.player.kept))) [
        | inl e ↦ rw e (unmoved _)
        | inr e ↦ rw e (elim (cases_Bool (no_id_place k w.player)) [ inl f ↦ rw f (unmoved _) | inr f ↦ rw f (record { goes = keeps_it k new off }) ])
      ]

  way_start : (k : Kept) → Goes w c (on_start k w.player w.sink)
  way_start k =
      let over : Outcome = (did drawn.Over, w.player, w.sink) in
      let again : Outcome = (did drawn.Repeat, w.player, w.sink) in
      let told : Outcome = tells_now k w.player w.sink in
      let kept : Outcome = keeps k w.player w.sink in
      let new : Outcome = cond (active k.span w.player.playhead.ms) told kept in
      cond_both (ended k.span w.player.playhead.ms) over (cond (known k w.player) again new) (Goes w c) (λ _. unmoved _) (λ _.
      cond_both (known k w.player) again new (Goes w c) (λ _. unmoved _) (λ f.
      cond_both (active k.span w.player.playhead.ms) told kept (Goes w c) (way_tells k f) (way_keeps k f)))

  way_mode : (s : ℕ) (e : Event) (m : Mode) → mode_of w.player s ≡ m → Goes w c (in_mode_of m (kept_of s e) w.player w.sink)
  way_mode s e Off is = unmoved _
  way_mode s e OnReceive is = elim (cases_Bool (ltb 0 w.sink.free)) [ inl f ↦ rw f (record { goes = tells_at_once s e is }) | inr f ↦ rw f (unmoved _) ]
  way_mode s e OnStart is = way_start (kept_of s e)

  way_received : (o : Option ℕ) (e : Event) → Goes w c (receives_in o e w.player w.sink)
  way_received None e = unmoved _
  way_received (Some s) e = way_mode s e (mode_of w.player s) refl

  way_drawn : (l : Look) (f : Coming) → Way w c (world (draws_at l f w.player w.sink).1 (draws_at l f w.player w.sink).2)
  way_drawn (Ok None) f = stays
  way_drawn (Err g) f = stays
  way_drawn (Ok (Some e)) f = (way_received e.stream e).goes

-- how far a play comes
due_in : (a b : ℕ) (k : Kept) → starts_in a b k ≡ true → (a < starts k) × (starts k ≤ b)
due_in a b k e = grind (arith, nat_tests)

reach_between : (a t : ℕ) (ks : List Kept) → AllByRecursion (λ k. starts_in a t k ≡ true) ks → a ≤ t → (a ≤ reach_before ks t) × (reach_before ks t ≤ t)
reach_between a t [] h l = (l, omega arith)
reach_between a t (k ∷ ks) h l = let d = due_in a t k h.0 in (omega arith, omega arith)

pub reach_within : (w : State) (free t : ℕ) → w.playhead.ms ≤ t → (w.playhead.ms ≤ reach w free t) × (reach w free t ≤ t)
reach_within w free t l =
    reach_between w.playhead.ms t (drop free (due w t)) (All-drop (λ k. starts_in w.playhead.ms t k ≡ true) free (due w t) (kept_by_passes (starts_in w.playhead.ms t) w.kept)) l

-- a play reaches the furthest time by which all fits
pub furthest_reach : (t : ℕ) (w : State) (h : Held) (u : ℕ) → sorted earlier w.kept ≡ true → w.playhead.ms ≤ t → u ≡ reach w h.free t → Furthest w h.free t u
furthest_reach t w h u ordered l is =
    let within = reach_within w h.free t l in
    let fits = due_fits w.playhead.ms t h.free w.kept ordered in
    record {
      not_back = omega (arith, within);
      not_past = omega (arith, within);
      fits = omega (arith, fits, ap (λ v. length (due w v)) is);
      none_further = λ v b e. none_further w.playhead.ms t h.free w.kept ordered v (omega (arith, is)) e;
    }

-- by what is due and by what is active
starts_active : (k : Kept) → active_at (starts k) k ≡ true
starts_active k = go k.span.duration
  where
    go : (d : Option Time) → (leb (starts k) (starts k) && not (end_behind (starts k) d (starts k))) ≡ true
    go None = grind (arith, nat_tests)
    go (Some d) = grind (arith, nat_tests)

pub still_over : (a u t : ℕ) (k : Kept) → a ≤ t → t ≤ u → active_at a k ≡ false → starts_in a u k ≡ false → active_at t k ≡ false
still_over a u t k l m e f = go k.span.duration e
  where
    go : (d : Option Time) → (leb (starts k) a && not (end_behind (starts k) d a)) ≡ false → (leb (starts k) t && not (end_behind (starts k) d t)) ≡ false
    go None e = grind (arith, nat_tests)
    go (Some d) e = grind (arith, nat_tests)

way_played : (w : World) (c : Call) (t : ℕ) → t ≤ latest → w.player.playhead.ms ≤ t → Goes w c (plays_to (reach w.player w.sink.free t) w.player w.sink)
way_played w c t l b =
    let u : ℕ = reach w.player w.sink.free t in
    let a : ℕ = w.player.playhead.ms in
    let in_reach = reach_within w.player w.sink.free t b in
    let is : (time u).ms ≡ u = ms_time u (omega arith) in
    record { goes = moves (time u) (starts_in a u) start_of (λ k _. starts_active k) (λ k e f. still_over a u (time u).ms k (omega arith) (omega arith) e f) }

way_sought : (w : World) (c : Call) (t : ℕ) → t ≤ latest → Goes w c (seeks_to t w.player w.sink)
way_sought w c t l =
    let is : (time t).ms ≡ t = ms_time t l in
    record { goes = moves (time t) (active_at t) (at_time (time t)) (λ k e. ap (λ n. active_at n k) is ∙ e) (λ k _ f. ap (λ n. active_at n k) is ∙ f) }

pub way : (c : Call) (w : World) → Way w c (after c w)
way (draw f) w = way_drawn w (draw f) (seen f) f
way (play t) w =
    elim (cases_Bool (ltb latest t)) [
      | inl e ↦ rw e stays
      | inr e ↦ rw e (elim (cases_Bool (ltb t w.player.playhead.ms)) [ inl f ↦ rw f stays | inr f ↦ rw f (way_played w (play t) t (ltb-false latest t e) (ltb-false t w.player.playhead.ms f)).goes ])
    ]
way (seek t) w =
    elim (cases_Bool (ltb latest t)) [
      | inl e ↦ rw e stays
      | inr e ↦ rw e (elim (cases_Bool (ltb w.sink.free (length (filter (active_at t) w.player.kept)))) [ inl f ↦ rw f stays | inr f ↦ rw f (way_sought w (seek t) t (ltb-false latest t e)).goes ])
    ]
way (follow s m) w =
    elim (cases_Bool (leb w.player.streams s)) [
      | inl e ↦ rw e stays
      | inr e ↦ rw e (elim (cases_Bool (is_off m)) [
        | inl f ↦ rw f stays
        | inr f ↦ rw f (elim (cases_Bool (is_off (mode_of w.player s))) [ inl g ↦ rw g (follows_it s m g) | inr g ↦ rw g stays ])
      ])
    ]
way (leave s) w =
    elim (cases_Bool (leb w.player.streams s)) [
      | inl e ↦ rw e stays
      | inr e ↦ rw e (elim (cases_Bool (is_off (mode_of w.player s))) [
        | inl f ↦ rw f stays
        | inr f ↦ rw f (leaves_it_lem s (rw (e, f, eq-eqb s s refl) refl))
      ])
    ]
way (evict a b) w = elim (cases_Bool (ltb b a)) [ inl e ↦ rw e stays | inr e ↦ rw e (evicts_some a b) ]
