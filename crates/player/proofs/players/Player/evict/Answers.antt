use Rattle.std.proofs.Common.{rules}
use Rattle.tables.specs.Picks.{arrived_in}
use Rattle.calls.proofs.Leaving.{evicts_done}
use Rattle.player.specs.Players.{state}
use Rattle.player.proofs.players.Player.evict.Goals as goal

pub forget-requires-clause-computes : goal.forget-requires-clause-computes
forget-requires-clause-computes c = (arrived_in c.args.from c.args.to, λ x y k. search rules)

pub returns-clause-after : goal.returns-clause-after
returns-clause-after c =
    let test = arrived_in c.args.from c.args.to in
    let gone = c.forget.ensures.value test (λ x y k. search rules) in
    let after = c.forget.ensures.after test (λ x y k. search rules) in
    let done = evicts_done c.args.from c.args.to (state c.args.self.now) c.if-to-from.false in
    cc
