-- How a leave, a seek and an evict go.
use Rattle.std.proofs.Common.{◌≡◌, ℕ, ◌<◌, ◌≤◌, false, map, length, filter, sym, ap, ◌∙◌, arith}
use Rattle.std.proofs.lemmas.Bool.{le-ltb, lt-leb, lt-ltb}
use Rattle.event.specs.declared.times.Time.{Time}
use Rattle.event.specs.Numbers.{Answer}
use Rattle.event.specs.Numbers.Answer.{did, refused}
use Rattle.event.specs.Sinks.{Held}
use Rattle.event.specs.Times.{latest}
use Rattle.event.proofs.Clock.{time_ms}
use Rattle.calls.specs.Draws.{with_kept}
use Rattle.tables.specs.Picks.{arrived_in}
use Rattle.calls.specs.Evicts.{evicts}
use Rattle.calls.specs.Follows.{is_off, mode_of}
use Rattle.tables.specs.Picks.{kept_in}
use Rattle.calls.specs.Leaves.{leaves, left}
use Rattle.calls.specs.Plays.{moved, told_by, told_to}
use Rattle.tables.specs.Elements.{active_at}
use Rattle.calls.specs.Seeks.{Seek, seeks, seeks_to}
use Rattle.tables.specs.Picks.{at_time}
use Rattle.calls.specs.State.{State}
use Rattle.tables.specs.Tables.{without}
use Rattle.calls.proofs.Playing.{at_playhead}

pub leaves_done : (s : ℕ) (w : State) → s < w.streams → is_off (mode_of w s) ≡ false → ◌≡◌ {A = Answer ℕ × State} (did (length (filter (kept_in s) w.kept)), left s w) (leaves s w)
leaves_done s w l e = rw (lt-leb w.streams s l, e)

module _ (t : ℕ) (w : State) (h : Held) where
  pub seeks_late : latest < t → ◌≡◌ {A = Seek} (refused 20, w, h) (seeks t w h)
  seeks_late l = rw (lt-ltb latest t l)

  pub seeks_full : t ≤ latest → h.free < length (filter (active_at t) w.kept) → ◌≡◌ {A = Seek} (refused 24, w, h) (seeks t w h)
  seeks_full l f = rw (le-ltb latest t l, lt-ltb h.free (length (filter (active_at t) w.kept)) f)

  seeks_on : t ≤ latest → length (filter (active_at t) w.kept) ≤ h.free → seeks_to t w h ≡ seeks t w h
  seeks_on l f = rw (le-ltb latest t l, le-ltb h.free (length (filter (active_at t) w.kept)) f)

  -- what was told, removed and marked at the target is what a seek does
  pub sought : (r : Time) (s : State) (g : Held) (n : ℕ) → t ≤ latest → r.ms ≡ t → length (filter (active_at r.ms) w.kept) ≤ h.free → n ≡ length (filter (active_at r.ms) w.kept) →
      s ≡ moved w.playhead (active_at r.ms) w → g ≡ told_to h (map (told_by (at_time r)) (filter (active_at r.ms) w.kept)) → ◌≡◌ {A = Seek} (did n, at_playhead r s, g) (seeks t w h)
  sought r s g n l is fits counted after told =
      let made : ℕ → State → Held → Seek = λ m q f. (did m, at_playhead r q, f) in
      let by-time : Time → Seek = λ v. (did (length (filter (active_at r.ms) w.kept)), moved v (active_at r.ms) w, told_to h (map (told_by (at_time v)) (filter (active_at r.ms) w.kept))) in
      ap (λ m. made m s g) counted
      ∙ ap (λ q. made (length (filter (active_at r.ms) w.kept)) q g) after
      ∙ ap (λ f. made (length (filter (active_at r.ms) w.kept)) (moved w.playhead (active_at r.ms) w) f) told
      ∙ ap by-time (sym (time_ms r))
      ∙ ap (λ u. seeks_to u w h) is
      ∙ seeks_on l (omega (arith, ap (λ u. length (filter (active_at u) w.kept)) is))

module _ (a b : ℕ) (w : State) where
  pub evicts_back : b < a → ◌≡◌ {A = Answer ℕ × State} (refused 25, w) (evicts a b w)
  evicts_back l = rw (lt-ltb b a l)

  pub evicts_done : a ≤ b → ◌≡◌ {A = Answer ℕ × State} (did (length (filter (arrived_in a b) w.kept)), with_kept w (without (arrived_in a b) w.kept)) (evicts a b w)
  evicts_done l = rw (le-ltb b a l)
