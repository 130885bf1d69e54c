-- What holds after every call, where it held before.
use Rattle.std.proofs.Common.{◌≡◌, ℕ, ◌≤◌, true, List, [], ◌∷◌, length, refl, ap, arith}
use Rattle.std.proofs.lemmas.List.{length-set}
use Rattle.std.proofs.lemmas.Bool.{not-true}
use Rattle.event.specs.Sinks.{Held}
use Rattle.tables.specs.Elements.{active_at, earlier, kept_as, used_as}
use Rattle.tables.specs.Picks.{arrived_in}
use Rattle.tables.specs.Picks.{kept_in, used_in}
use Rattle.calls.specs.Once.{NoneKeptActive, none_active}
use Rattle.calls.specs.Runs.{Call, New, World, after, runs, world}
use Rattle.calls.specs.State.{State, fresh}
use Rattle.tables.specs.Tables.{fails, none, sorted}
use Rattle.calls.proofs.Counting.{count, none_of}
use Rattle.tables.proofs.InOrder.{none_placed}
use Rattle.calls.proofs.Outcomes.{Way, way}
use Rattle.calls.proofs.Outcomes.Way.{stays, tells_at_once, tells_now_lem, keeps_it, moves, follows_it, leaves_it_lem, evicts_some}
use Rattle.calls.proofs.Singles.{Single, one_kept, one_used, single_fewer, single_kept_fewer, single_moved}
use Rattle.tables.proofs.Sorting.{earlier_further, earlier_opposite, kept_placed_sorted}
use Rattle.tables.proofs.Filtered.{sorted_filtered}

-- kept events in order, ids single, nothing kept active at the playhead
pub record Steady (w : World) : Type 0 where
  pub ordered : sorted earlier w.player.kept ≡ true
  pub single : Single w.player
  pub resting : none_active w.player ≡ true

pub steady_way : {w v : World} {c : Call} → Steady w → Way w c v → Steady v
steady_way h stays = h
steady_way h (tells_at_once s e is) = record { ordered = h.ordered; single = h.single; resting = h.resting }
steady_way {w} h (tells_now_lem k new on) = record { ordered = h.ordered; single = one_used w.player k new h.single; resting = h.resting }
steady_way {w} h (keeps_it k new off) = record {
  ordered = kept_placed_sorted k w.player.kept h.ordered;
  single = one_kept w.player k new h.single;
  resting = none_placed earlier earlier_opposite earlier_further (active_at w.player.playhead.ms) k w.player.kept off h.resting;
}
steady_way {w} h (moves t p f told left) = record {
  ordered = sorted_filtered earlier (fails p) w.player.kept h.ordered;
  single = single_moved t p w.player h.single;
  resting = none_of (fails p) (active_at w.player.playhead.ms) (active_at t.ms) w.player.kept (λ k e n. left k e (not-true (p k) n)) h.resting;
}
steady_way h (follows_it s m off) = record { ordered = h.ordered; single = h.single; resting = h.resting }
steady_way {w} h (leaves_it_lem s ends) = record {
  ordered = sorted_filtered earlier (fails (kept_in s)) w.player.kept h.ordered;
  single = single_fewer (kept_in s) (used_in s) w.player h.single;
  resting = none_of (fails (kept_in s)) (active_at w.player.playhead.ms) (active_at w.player.playhead.ms) w.player.kept (λ _ e _. e) h.resting;
}
steady_way {w} h (evicts_some a b) = record {
  ordered = sorted_filtered earlier (fails (arrived_in a b)) w.player.kept h.ordered;
  single = single_kept_fewer (arrived_in a b) w.player h.single;
  resting = none_of (fails (arrived_in a b)) (active_at w.player.playhead.ms) (active_at w.player.playhead.ms) w.player.kept (λ _ e _. e) h.resting;
}

pub steady_after : (c : Call) (w : World) → Steady w → Steady (after c w)
steady_after c w h = steady_way h (way c w)

pub steady_runs : (cs : List Call) (w : World) → Steady w → Steady (runs cs w)
steady_runs [] w h = h
steady_runs (c ∷ cs) w h = steady_runs cs (after c w) (steady_after c w h)

pub new_world : (n k m : ℕ) (p : State) (h : Held) → n ≤ 32 → p ≡ fresh n k m → h.told ≡ [] → New n k m h.free (world p h)
new_world n k m p h few e none = record { few = few; player = e; told = none; free = refl }

pub steady_new : (n k m f : ℕ) (w : World) → New n k m f w → Steady w
steady_new n k m f w h =
    let kept_none : w.player.kept ≡ [] = ap (λ p. p.kept) h.player in
    let used-none : w.player.used ≡ [] = ap (λ p. p.used) h.player in
    record {
      ordered = ap (sorted earlier) kept_none;
      single = λ s i. omega (arith, ap (count (used_as s i)) used-none, ap (count (kept_as s i)) kept_none);
      resting = ap (none (active_at w.player.playhead.ms)) kept_none;
    }

pub none_active_lem : (n k m f : ℕ) (w : World) → New n k m f w → NoneKeptActive w
none_active_lem n k m f w h cs = (steady_runs cs w (steady_new n k m f w h)).resting

-- a mode for each stream
abbrev pub Moded : World → Type 0
Moded w = w.player.streams ≤ length w.player.modes

moded_way : {w v : World} {c : Call} → Moded w → Way w c v → Moded v
moded_way h stays = h
moded_way h (tells_at_once s e is) = h
moded_way h (tells_now_lem k new on) = h
moded_way h (keeps_it k new off) = h
moded_way h (moves t p f told left) = h
moded_way {w} h (follows_it s m off) = omega (arith, length-set w.player.modes s m)
moded_way {w} h (leaves_it_lem s ends) = simp length-set h
moded_way h (evicts_some a b) = h

pub moded_after : (c : Call) (w : World) → Moded w → Moded (after c w)
moded_after c w h = moded_way h (way c w)

pub moded_runs : (cs : List Call) (w : World) → Moded w → Moded (runs cs w)
moded_runs [] w h = h
moded_runs (c ∷ cs) w h = moded_runs cs (after c w) (moded_after c w h)

pub moded_new : (n k m f : ℕ) (w : World) → New n k m f w → Moded w
moded_new n k m f w h = omega (arith, h.few, ap (λ p. p.streams) h.player, ap (λ p. length p.modes) h.player)
