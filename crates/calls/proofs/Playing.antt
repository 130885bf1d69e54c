-- How a play goes.
use Rattle.std.proofs.Common.{◌≡◌, ℕ, ◌<◌, ◌≤◌, map, length, sym, ap, ◌∙◌}
use Rattle.std.proofs.lemmas.Bool.{le-ltb, lt-ltb}
use Rattle.event.specs.declared.times.Time.{Time}
use Rattle.event.specs.Numbers.Answer.{did, refused}
use Rattle.event.specs.Sinks.{Held}
use Rattle.event.specs.Times.{latest}
use Rattle.event.proofs.Clock.{time_ms}
use Rattle.calls.specs.Plays.{Play, at_start, due, moved, plays, plays_to, reach, told_to}
use Rattle.tables.specs.Picks.{starts_in}
use Rattle.calls.specs.State.{State}

module _ (t : ℕ) (w : State) (h : Held) where
  pub plays_late : latest < t → ◌≡◌ {A = Play} (refused 20, w, h) (plays t w h)
  plays_late l = rw (lt-ltb latest t l)

  pub plays_back : t ≤ latest → t < w.playhead.ms → ◌≡◌ {A = Play} (refused 21, w, h) (plays t w h)
  plays_back l b = rw (le-ltb latest t l, lt-ltb t w.playhead.ms b)

  pub plays_on : t ≤ latest → w.playhead.ms ≤ t → plays_to (reach w h.free t) w h ≡ plays t w h
  plays_on l b = rw (le-ltb latest t l, le-ltb t w.playhead.ms b)

abbrev pub at_playhead : Time → State → State
at_playhead t w = record { streams = w.streams; playhead = t; modes = w.modes; kept = w.kept; used = w.used; places = w.places; id_places = w.id_places }

-- what was told, removed and marked up to the reach is what a play does
pub played : (t : ℕ) (w s : State) (h g : Held) (n : ℕ) (r : Time) → t ≤ latest → w.playhead.ms ≤ t → r.ms ≡ reach w h.free t → n ≡ length (due w r.ms) →
    s ≡ moved w.playhead (starts_in w.playhead.ms r.ms) w → g ≡ told_to h (map at_start (due w r.ms)) →
    ◌≡◌ {A = Play} (did (record { told = n; playhead = r }), at_playhead r s, g) (plays t w h)
played t w s h g n r l b reached counted after told =
    let made : ℕ → Time → State → Held → Play = λ m v q f. (did (record { told = m; playhead = v }), at_playhead v q, f) in
    let p = starts_in w.playhead.ms r.ms in
    let by-time : Time → Play = λ v. (did (record { told = length (due w r.ms); playhead = v }), moved v p w, told_to h (map at_start (due w r.ms))) in
    ap (λ m. made m r s g) counted
    ∙ ap (λ q. made (length (due w r.ms)) r q g) after
    ∙ ap (λ f. made (length (due w r.ms)) r (moved w.playhead p w) f) told
    ∙ ap by-time (sym (time_ms r))
    ∙ ap (λ u. plays_to u w h) reached
    ∙ plays_on t w h l b
