-- Every record that is drawn is counted once.
use Rattle.std.proofs.Common.{◌≡◌, ℕ, ◌+◌, ◌-◌, Bool, cond, ltb, leb, List, [], ◌∷◌, ◌++◌, map, length, Some, None, filter, Option, refl, ap, inl, inr, arith}
use Rattle.std.proofs.lemmas.List.Filters.{length-filter_both}
use Rattle.std.proofs.lemmas.List.{length-append, length-map, length_push}
use Rattle.std.proofs.lemmas.Bool.{cases_Bool, cond_both}
use Rattle.event.specs.declared.events.Event.{Event}
use Rattle.event.specs.declared.faults.Fault.{Fault}
use Rattle.event.specs.declared.modes.Mode.{Mode}
use Rattle.event.specs.declared.modes.Mode.TheVariants.{Off, OnReceive, OnStart}
use Rattle.event.specs.declared.modes.Trigger.TheVariants.{Receive, Start}
use Rattle.event.specs.declared.times.Time.{Time}
use Rattle.event.specs.Numbers.{Answer}
use Rattle.event.specs.Numbers.Answer.{did, refused, refused_with}
use Rattle.event.specs.Spans.{active, ended}
use Rattle.event.specs.Times.{latest, time}
use Rattle.tables.specs.declared.elements.Kept.{Kept}
use Rattle.calls.specs.declared.answers.Drawn.{Drawn}
use Rattle.calls.specs.declared.answers.Drawn.TheVariants as drawn
use Rattle.calls.specs.Draws
use Rattle.calls.specs.Draws.{Outcome, in_mode_of, keeps, known, no_id_place, on_start, receives_in, tells_now}
use Rattle.tables.specs.Elements.{active_at, dispatched, earlier, kept_of}
use Rattle.tables.specs.Picks.{arrived_in}
use Rattle.calls.specs.Follows.{is_off, mode_of}
use Rattle.tables.specs.Picks.{kept_in}
use Rattle.calls.specs.Plays.{reach, told_by}
use Rattle.tables.specs.Picks.{start_of, starts_in}
use Rattle.calls.specs.Runs.{Call, New, World, after, runs}
use Rattle.calls.specs.Runs.CallOn.{draw, play, seek, follow, leave, evict}
use Rattle.tables.specs.Picks.{at_time}
use Rattle.tables.specs.Tables.{fails, without}
use Rattle.calls.specs.Tally.{TallyAddsUp, answered, evicted_by, is_line, left_by, stepped, sums}
use Rattle.tables.proofs.InOrder.{length_placed}

-- told and kept
abbrev here : World → ℕ
here w = length w.sink.told + length w.player.kept

-- the three lines that neither tell nor keep
abbrev lines : Answer Drawn → ℕ
lines a = is_line drawn.Passed a + is_line drawn.Over a + is_line drawn.Repeat a

-- a record that was not refused
abbrev one : Answer Drawn → ℕ
one (did d) = 1
one (refused n) = 0
one (refused_with n f) = 0

record Adds (w : World) (o : Outcome) : Type 0 where
  adds : one o.0 + here w ≡ lines o.0 + (length o.2.told + length o.1.kept)

module _ (w : World) where
  line_adds : (a : Answer Drawn) → one a ≡ lines a → Adds w (a, w.player, w.sink)
  line_adds a e = record { adds = omega (arith, e) }

  tells_adds : (k : Kept) → Adds w (tells_now k w.player w.sink)
  tells_adds k =
      let push = length_push w.sink.told (dispatched w.player.playhead Start k) in
      elim (cases_Bool (no_id_place k w.player)) [
        | inl e ↦ rw e (line_adds (refused 23) refl)
        | inr e ↦ rw e (elim (cases_Bool (ltb 0 w.sink.free)) [ inl f ↦ rw f (record { adds = omega (arith, push) }) | inr f ↦ rw f (line_adds (refused 24) refl) ])
      ]

  keeps_adds : (k : Kept) → Adds w (keeps k w.player w.sink)
  keeps_adds k =
      let placed = length_placed earlier k w.player.kept in
      elim (cases_Bool (leb w.player.places (length w.player.kept))) [
        | inl e ↦ rw e (line_adds (refused 22) refl)
        | inr e ↦ rw e (elim (cases_Bool (no_id_place k w.player)) [ inl f ↦ rw f (line_adds (refused 23) refl) | inr f ↦ rw f (record { adds = omega (arith, placed) }) ])
      ]

  start_adds : (k : Kept) → Adds w (on_start k w.player w.sink)
  start_adds k =
      let over : Outcome = (did drawn.Over, w.player, w.sink) in
      let again : Outcome = (did drawn.Repeat, w.player, w.sink) in
      let told : Outcome = tells_now k w.player w.sink in
      let kept : Outcome = keeps k w.player w.sink in
      let new : Outcome = cond (active k.span w.player.playhead.ms) told kept in
      cond_both (ended k.span w.player.playhead.ms) over (cond (known k w.player) again new) (Adds w) (λ _. line_adds (did drawn.Over) refl) (λ _.
      cond_both (known k w.player) again new (Adds w) (λ _. line_adds (did drawn.Repeat) refl) (λ _.
      cond_both (active k.span w.player.playhead.ms) told kept (Adds w) (λ _. tells_adds k) (λ _. keeps_adds k)))

  mode_adds : (m : Mode) (k : Kept) → Adds w (in_mode_of m k w.player w.sink)
  mode_adds Off k = line_adds (did drawn.Passed) refl
  mode_adds OnReceive k =
      let push = length_push w.sink.told (dispatched w.player.playhead Receive k) in
      elim (cases_Bool (ltb 0 w.sink.free)) [ inl f ↦ rw f (record { adds = omega (arith, push) }) | inr f ↦ rw f (line_adds (refused 24) refl) ]
  mode_adds OnStart k = start_adds k

  received_adds : (o : Option ℕ) (e : Event) → Adds w (receives_in o e w.player w.sink)
  received_adds None e = line_adds (did drawn.Passed) refl
  received_adds (Some s) e = mode_adds (mode_of w.player s) (kept_of s e)

-- what a feed has less after an answer
less : (e : Event) (es : List Event) (d : Option Fault) (a : Answer Drawn) →
    length (e ∷ es) - length (Draws.stepped a (record { records = e ∷ es; ending = d })).records ≡ one a
less e es d (did x) = omega arith
less e es d (refused n) = omega arith
less e es d (refused_with n f) = omega arith

-- told kept events are no longer kept
module _ (w : World) (p : Kept → Bool) (f : Kept → Time) where
  moved_adds : length (w.sink.told ++ map (told_by f) (filter p w.player.kept)) + length (without p w.player.kept) ≡ here w
  moved_adds =
      omega (arith, length-append w.sink.told (map (told_by f) (filter p w.player.kept)), length-map (filter p w.player.kept) (told_by f), length-filter_both p (fails p) (λ _. refl) w.player.kept)

-- one call
record Added (c : Call) (w : World) : Type 0 where
  added : stepped c w + here w ≡ answered drawn.Passed c w + answered drawn.Over c w + answered drawn.Repeat c w + here (after c w) + evicted_by c w + left_by c w

drawn_added : (es : List Event) (d : Option Fault) (w : World) → Added (draw (record { records = es; ending = d })) w
drawn_added [] None w = record { added = omega arith }
drawn_added [] (Some f) w = record { added = omega arith }
drawn_added (e ∷ es) d w =
    let o = receives_in e.stream e w.player w.sink in
    record { added = omega (arith, (received_adds w e.stream e).adds, less e es d o.0) }

call_added : (c : Call) (w : World) → Added c w
call_added (draw f) w = drawn_added f.records f.ending w
call_added (play t) w =
    let u : ℕ = reach w.player w.sink.free t in
    let sum = moved_adds w (starts_in w.player.playhead.ms u) start_of in
    elim (cases_Bool (ltb latest t)) [
      | inl e ↦ record { added = rw e (omega arith) }
      | inr e ↦ elim (cases_Bool (ltb t w.player.playhead.ms)) [ inl f ↦ record { added = rw (e, f) (omega arith) } | inr f ↦ record { added = rw (e, f) (omega (arith, sum)) } ]
    ]
call_added (seek t) w =
    let sum = moved_adds w (active_at t) (at_time (time t)) in
    elim (cases_Bool (ltb latest t)) [
      | inl e ↦ record { added = rw e (omega arith) }
      | inr e ↦ elim (cases_Bool (ltb w.sink.free (length (filter (active_at t) w.player.kept)))) [ inl f ↦ record { added = rw (e, f) (omega arith) } | inr f ↦ record { added = rw (e, f) (omega (arith, sum)) } ]
    ]
call_added (follow s m) w =
    elim (cases_Bool (leb w.player.streams s)) [
      | inl e ↦ record { added = rw e (omega arith) }
      | inr e ↦ elim (cases_Bool (is_off m)) [
        | inl f ↦ record { added = rw (e, f) (omega arith) }
        | inr f ↦ elim (cases_Bool (is_off (mode_of w.player s))) [ inl g ↦ record { added = rw (e, f, g) (omega arith) } | inr g ↦ record { added = rw (e, f, g) (omega arith) } ]
      ]
    ]
call_added (leave s) w =
    let apart = length-filter_both (kept_in s) (fails (kept_in s)) (λ _. refl) w.player.kept in
    elim (cases_Bool (leb w.player.streams s)) [
      | inl e ↦ record { added = rw e (omega arith) }
      | inr e ↦ elim (cases_Bool (is_off (mode_of w.player s))) [ inl f ↦ record { added = rw (e, f) (omega arith) } | inr f ↦ record { added = rw (e, f) (omega (arith, apart)) } ]
    ]
call_added (evict a b) w =
    let apart = length-filter_both (arrived_in a b) (fails (arrived_in a b)) (λ _. refl) w.player.kept in
    elim (cases_Bool (ltb b a)) [ inl e ↦ record { added = rw e (omega arith) } | inr e ↦ record { added = rw e (omega (arith, apart)) } ]

-- all calls of a run
runs_added : (cs : List Call) (w : World) →
    sums stepped cs w + here w ≡
    sums (answered drawn.Passed) cs w + sums (answered drawn.Over) cs w + sums (answered drawn.Repeat) cs w + here (runs cs w) + sums evicted_by cs w + sums left_by cs w
runs_added [] w = omega arith
runs_added (c ∷ cs) w = omega (arith, (call_added c w).added, runs_added cs (after c w))

pub tallied : (n k m f : ℕ) (w : World) → New n k m f w → TallyAddsUp w
tallied n k m f w h cs =
    let told_none : length w.sink.told ≡ 0 = ap length h.told in
    let kept_none : length w.player.kept ≡ 0 = ap (λ p. length p.kept) h.player in
    omega (arith, runs_added cs w)
