-- What is told of a stream that is followed on start.
--   tells_of s d          a dispatch of the stream
--   tells_id s i d        a dispatch of the stream with the id
--   WhileActive d         the event is active at the position of its dispatch
--   leaves_it s c w       a leave of the stream that is not refused
--   stays_followed s cs w no call of the run is such a leave
--   since w v             what was told from one world of a run to a later one
--   Once s ds             each id of the stream is told at most once, and its events only while they are active
--   OnceWhileFollowed w   in every run from w: from a follow of a stream on start that is not refused, for as long as it stays followed, what is told is once and while active
--   NoneKeptActive w      after every run from w no kept event is active at the playhead
use Rattle.std.specs.Prelude.{◌≡◌, ℕ, ◌≤◌, Bool, true, false, not, ◌&&◌, List, [], ◌∷◌, length, drop, filter, ◌==◌}
use Rattle.std.specs.List.{AllByRecursion}
use Rattle.event.specs.declared.dispatches.Dispatch.{Dispatch}
use Rattle.event.specs.declared.modes.Mode.TheVariants.{OnStart}
use Rattle.event.specs.Spans.{active}
use Rattle.tables.specs.Elements.{active_at, same_id}
use Rattle.calls.specs.Runs.{Call, World, after, does, done, runs}
use Rattle.calls.specs.Runs.CallOn.{draw, play, seek, follow, leave, evict}
use Rattle.calls.specs.State.{State}
use Rattle.tables.specs.Tables.{none}

abbrev pub tells_of : ℕ → Dispatch → Bool
tells_of s d = d.stream == s

abbrev pub tells_id : ℕ → ℕ → Dispatch → Bool
tells_id s i d = same_id d.id i && tells_of s d

abbrev pub WhileActive : Dispatch → Type 0
WhileActive d = active d.span d.position.ms ≡ true

abbrev pub leaves_it : ℕ → Call → World → Bool
leaves_it s (draw c) w = false
leaves_it s (play t) w = false
leaves_it s (seek t) w = false
leaves_it s (follow r m) w = false
leaves_it s (leave r) w = r == s && done (does (leave r) w).0
leaves_it s (evict a b) w = false

abbrev pub stays_followed : ℕ → List Call → World → Bool
stays_followed s [] w = true
stays_followed s (c ∷ cs) w = not (leaves_it s c w) && stays_followed s cs (after c w)

abbrev pub since : World → World → List Dispatch
since w v = drop (length w.sink.told) v.sink.told

pub record Once (s : ℕ) (ds : List Dispatch) : Type 0 where
  pub once : (i : ℕ) → length (filter (tells_id s i) ds) ≤ 1
  pub active : AllByRecursion WhileActive (filter (tells_of s) ds)

abbrev pub OnceWhileFollowed : World → Type 0
OnceWhileFollowed w =
    (before : List Call) (s : ℕ) (during : List Call) →
    let start = runs before w in
    let on_start = after (follow s OnStart) start in
    done (does (follow s OnStart) start).0 ≡ true → stays_followed s during on_start ≡ true → Once s (since start (runs during on_start))

abbrev pub none_active : State → Bool
none_active p = none (active_at p.playhead.ms) p.kept

abbrev pub NoneKeptActive : World → Type 0
NoneKeptActive w = (cs : List Call) → none_active (runs cs w).player ≡ true
