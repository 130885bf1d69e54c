-- A run whose plays are made in stops comes to the same.
use Rattle.std.proofs.Common.{◌≡◌, ℕ, ◌≤◌, List, [], ◌∷◌, ◌++◌, map, sym, refl, ap, ◌∙◌, subst}
use Rattle.std.specs.List.{AllByRecursion}
use Rattle.event.specs.declared.dispatches.Dispatch.{Dispatch}
use Rattle.event.specs.Sinks.{Held}
use Rattle.event.specs.Times.{latest}
use Rattle.calls.specs.Runs.{Call, New, World, after, runs, world}
use Rattle.calls.specs.Runs.CallOn.{play}
use Rattle.calls.specs.State.{fresh}
use Rattle.calls.specs.Stops.{Agree, Stopped, StopsChangeNothing, UpTo}
use Rattle.calls.specs.Stops.Stopped.{none, alike, stops}
use Rattle.calls.proofs.Bare.{alike_map, bare_call, bare_world, runs_map}
use Rattle.calls.proofs.Joining.{play_twice}
use Rattle.calls.proofs.Lasting.{Steady, steady_after, steady_new}

-- stops before a play
in_stops : (t : ℕ) (ts : List ℕ) (ds : List Call) (w : World) → Steady w → t ≤ latest → AllByRecursion (UpTo t) ts → runs (map bare_call (map play ts ++ (play t ∷ ds))) w ≡ runs (map bare_call ds) (after (play t) w)
in_stops t [] ds w h l up = refl
in_stops t (u ∷ ts) ds w h l up =
    in_stops t ts ds (after (play u) w) (steady_after (play u) w h) l up.1
    ∙ ap (runs (map bare_call ds)) (play_twice u t w h.ordered up.0 l)

stopped_same : {cs ds : List Call} → Stopped cs ds → (w : World) → Steady w → runs (map bare_call cs) w ≡ runs (map bare_call ds) w
stopped_same none w h = refl
stopped_same (alike {c = c} {d = d} {cs = cs} {ds = ds} a r) w h =
    ap (λ x. runs (map bare_call cs) (after x w)) (alike_map a) ∙ stopped_same r (after (bare_call d) w) (steady_after (bare_call d) w h)
stopped_same (stops {t = t} ts {cs = cs} {ds = ds} l up r) w h =
    stopped_same r (after (play t) w) (steady_after (play t) w h) ∙ sym (in_stops t ts ds w h l up)

-- two fresh worlds are one
begun : (n k m f : ℕ) (w : World) → New n k m f w → w ≡ world (fresh n k m) (record { told = []; free = f })
begun n k m f w h =
    let made : List Dispatch → ℕ → Held = λ t g. record { told = t; free = g } in
    ap (λ p. world p w.sink) h.player ∙ ap (λ t. world (fresh n k m) (made t w.sink.free)) h.told ∙ ap (λ g. world (fresh n k m) (made [] g)) h.free

pub stops_agree : (n k m f : ℕ) (w v : World) → New n k m f w → New n k m f v → (cs ds : List Call) → Stopped cs ds → Agree (runs cs w) (runs ds v)
stops_agree n k m f w v new-w new-v cs ds r =
    let start : World = world (fresh n k m) (record { told = []; free = f }) in
    let steady : Steady start = steady_new n k m f start (record { few = new-w.few; player = refl; told = refl; free = refl }) in
    let same : bare_world (runs cs w) ≡ bare_world (runs ds v) =
    ap (λ x. bare_world (runs cs x)) (begun n k m f w new-w) ∙ runs_map cs start ∙ stopped_same r start steady ∙ sym (runs_map ds start) ∙ ap (λ x. bare_world (runs ds x)) (sym (begun n k m f v new-v)) in
    record {
      playhead = ap (λ x. x.player.playhead) same;
      modes = ap (λ x. x.player.modes) same;
      kept = ap (λ x. x.player.kept) same;
      used = ap (λ x. x.player.used) same;
      told = ap (λ x. x.sink.told) same;
    }

pub stops_nothing : (n k m f : ℕ) (w : World) → New n k m f w → StopsChangeNothing w
stops_nothing n k m f w h v g cs ds r =
    let few : w.player.streams ≡ n = ap (λ p. p.streams) h.player in
    let places : w.player.places ≡ k = ap (λ p. p.places) h.player in
    let ids : w.player.id_places ≡ m = ap (λ p. p.id_places) h.player in
    let same : New n k m f v = subst (λ x. New x k m f v) few (subst (λ x. New w.player.streams x m f v) places
    (subst (λ x. New w.player.streams w.player.places x f v) ids (subst (λ x. New w.player.streams w.player.places w.player.id_places x v) h.free g))) in
    stops_agree n k m f w v h same cs ds r
