-- Lists of calls on a player, a sink of any make, and feeds of any make.
--   meant coming c                 a call by what its feed has still to come
--   seen_as held p s               the world of a player and a sink
--   Chain coming held cs p s q t   the calls, each made on what the one before it left, lead from the player p and the sink s to q and t: at each step answer, player and sink are what the call's contract says
--   StopsChangeNoValue             for two players and two sinks, with feeds and sinks of different make: a run and the run in stops agree
--   ValuesHold                     of every chain from a fresh player and an empty sink: a stream that stays followed on start is told each id at most once and its events while active, no kept event is active at the playhead, and each record drawn is counted once
use Rattle.std.specs.Prelude.{◌≡◌, ℕ, ◌+◌, true, List, [], ◌∷◌, map, length, drop}
use Rattle.event.specs.declared.modes.Mode.TheVariants.{OnStart}
use Rattle.event.specs.Feeds.{Coming}
use Rattle.event.specs.Sinks.{Held}
use Rattle.player.specs.declared.players.Player.{Player}
use Rattle.calls.specs.Once.{Once, none_active, stays_followed}
use Rattle.calls.specs.Runs.{Answers, Call, CallOn, New, World, after, does, done, world}
use Rattle.calls.specs.Runs.CallOn.{draw, play, seek, follow, leave, evict}
use Rattle.player.specs.Players.{state}
use Rattle.calls.specs.Stops.{Agree, Stopped}
use Rattle.calls.specs.Tally.{drawn, evicted, left, over, passed, repeats}

abbrev pub meant : {F : Type 0} → (F → Coming) → CallOn F → Call
meant coming (draw f) = draw (coming f)
meant coming (play t) = play t
meant coming (seek t) = seek t
meant coming (follow s m) = follow s m
meant coming (leave s) = leave s
meant coming (evict a b) = evict a b

abbrev pub seen_as : {S : Type 0} → (S → Held) → Player → S → World
seen_as held p s = world (state p) (held s)

pub data Chain {F S : Type 0} (coming : F → Coming) (held : S → Held) : List (CallOn F) → Player → S → Player → S → Type 0 where
  ends : {p : Player} {s : S} → Chain coming held [] p s p s
  then : {c : CallOn F} {cs : List (CallOn F)} {p q r : Player} {s t u : S} (a : Answers (meant coming c)) →
      does (meant coming c) (seen_as held p s) ≡ (a, seen_as held q t) → Chain coming held cs q t r u → Chain coming held (c ∷ cs) p s r u

abbrev pub StopsChangeNoValue : {F G S T : Type 0} → (F → Coming) → (G → Coming) → (S → Held) → (T → Held) → Type 0
StopsChangeNoValue {F} {G} {S} {T} coming coming' held held' =
    (n k m f : ℕ) (p q : Player) (s : S) (t : T) → New n k m f (seen_as held p s) → New n k m f (seen_as held' q t) →
    (cs : List (CallOn F)) (ds : List (CallOn G)) → Stopped (map (meant coming) cs) (map (meant coming') ds) →
    (p' q' : Player) (s' : S) (t' : T) → Chain coming held cs p s p' s' → Chain coming' held' ds q t q' t' →
    Agree (seen_as held p' s') (seen_as held' q' t')

pub record ValuesHold {F S : Type 0} (coming : F → Coming) (held : S → Held) : Type 0 where
  pub once : (n k m f : ℕ) (p q r : Player) (s t u : S) → New n k m f (seen_as held p s) →
      (before : List (CallOn F)) (stream : ℕ) (during : List (CallOn F)) →
      Chain coming held before p s q t → Chain coming held (follow stream OnStart ∷ during) q t r u →
      done (does (follow stream OnStart) (seen_as held q t)).0 ≡ true → stays_followed stream (map (meant coming) during) (after (follow stream OnStart) (seen_as held q t)) ≡ true →
      Once stream (drop (length (held t).told) (held u).told)
  pub resting : (n k m f : ℕ) (p q : Player) (s t : S) → New n k m f (seen_as held p s) → (cs : List (CallOn F)) → Chain coming held cs p s q t →
      none_active (state q) ≡ true
  pub tally : (n k m f : ℕ) (p q : Player) (s t : S) → New n k m f (seen_as held p s) → (cs : List (CallOn F)) → Chain coming held cs p s q t →
      let calls = map (meant coming) cs in
      let w = seen_as held p s in
      drawn calls w ≡ passed calls w + over calls w + repeats calls w + length (held t).told + length (state q).kept + evicted calls w + left calls w
