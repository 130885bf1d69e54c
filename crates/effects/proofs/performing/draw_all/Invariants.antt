use Rattle.std.proofs.Common.{◌≡◌, length}
use Rattle.player.specs.Players.{state}
use Rattle.effects.specs.Effects.{draws_all}
use Rattle.effects.proofs.performing.draw_all.Given as goal

-- what is left to draw comes to the same
abbrev pub invariant-loop : goal.invariant-loop
invariant-loop g l =
    let now = g.F.Feed.coming l.feed in
    let first = g.F.Feed.coming l.initial.feed in
    draws_all now.records now.ending (state l.player) (g.S.Sink.held l.sink)
    ≡ draws_all first.records first.ending (state l.initial.player) (g.S.Sink.held l.initial.sink)

abbrev pub decreases-loop : goal.decreases-loop
decreases-loop g l = length (g.F.Feed.coming l.feed).records
