-- Lists of calls on one player, with one sink.
--   CallOn X        one of the six calls with its arguments; a draw looks at an X
--   Call            a call whose draw looks at what a feed has still to come
--   World           a player and its sink
--   Answers c       what a call answers: the line that fits a record, how far a play came, a number, or only that it was done
--   does c w        the answer of a call, and the world that it leaves
--   after c w       the world that a call leaves
--   runs cs w       the world after a list of calls, one by one
--   done a          a call that was not refused
--   New n k m f w   a fresh player of n streams, at most 32, with k places for events and m for ids, and a sink that was told nothing and has f free places
use Rattle.std.specs.Prelude.{◌≡◌, ℕ, ◌≤◌, Bool, true, false, List, [], ◌∷◌}
use Rattle.event.specs.declared.modes.Mode.{Mode}
use Rattle.event.specs.Feeds.{Coming}
use Rattle.event.specs.Numbers.{Answer}
use Rattle.event.specs.Numbers.Answer.{did, refused, refused_with}
use Rattle.event.specs.Sinks.{Held}
use Rattle.calls.specs.declared.answers.Drawn.{Drawn}
use Rattle.calls.specs.declared.answers.Played.{Played}
use Rattle.calls.specs.Draws.{draws}
use Rattle.calls.specs.Evicts.{evicts}
use Rattle.calls.specs.Follows.{follows}
use Rattle.calls.specs.Leaves.{leaves}
use Rattle.calls.specs.Plays.{plays}
use Rattle.calls.specs.Seeks.{seeks}
use Rattle.calls.specs.State.{State, fresh}

pub data CallOn (X : Type 0) : Type 0 where
  draw : X → CallOn X
  play : ℕ → CallOn X
  seek : ℕ → CallOn X
  follow : ℕ → Mode → CallOn X
  leave : ℕ → CallOn X
  evict : ℕ → ℕ → CallOn X

abbrev pub Call : Type 0
Call = CallOn Coming

pub record World : Type 0 where
  pub player : State
  pub sink : Held

abbrev pub world : State → Held → World
world p h = record { player = p; sink = h }

abbrev pub Answers : Call → Type 0
Answers (draw c) = Answer Drawn
Answers (play t) = Answer Played
Answers (seek t) = Answer ℕ
Answers (follow s m) = Answer (Unit {0})
Answers (leave s) = Answer ℕ
Answers (evict a b) = Answer ℕ

abbrev pub does : (c : Call) → World → Answers c × World
does (draw c) w = let r = draws c w.player w.sink in (r.0, world r.1 r.2)
does (play t) w = let r = plays t w.player w.sink in (r.0, world r.1 r.2)
does (seek t) w = let r = seeks t w.player w.sink in (r.0, world r.1 r.2)
does (follow s m) w = let r = follows s m w.player in (r.0, world r.1 w.sink)
does (leave s) w = let r = leaves s w.player in (r.0, world r.1 w.sink)
does (evict a b) w = let r = evicts a b w.player in (r.0, world r.1 w.sink)

abbrev pub after : Call → World → World
after c w = (does c w).1

abbrev pub runs : List Call → World → World
runs [] w = w
runs (c ∷ cs) w = runs cs (after c w)

abbrev pub done : {X : Type 0} → Answer X → Bool
done (did x) = true
done (refused n) = false
done (refused_with n f) = false

pub record New (n k m f : ℕ) (w : World) : Type 0 where
  pub few : n ≤ 32
  pub player : w.player ≡ fresh n k m
  pub told : w.sink.told ≡ []
  pub free : w.sink.free ≡ f
