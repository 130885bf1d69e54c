use Rattle.std.proofs.Common.{◌≡◌, ◌-◌, drop, filter, sym, ap, ◌∙◌, arith, rules}
use Rattle.std.proofs.lemmas.Bool.{ltb-false, ltb-true}
use Rattle.event.proofs.Clock.{ms_time}
use Rattle.tables.specs.Elements.{earlier, starts}
use Rattle.tables.specs.Picks.{starts_by, starts_in}
use Rattle.tables.specs.Tables.{sorted}
use Rattle.tables.proofs.Prefixes.{search_prefix}
use Rattle.calls.specs.Plays.{reach_before}
use Rattle.calls.proofs.Reaching.{all_reached, halts_before, reaches_target, starts_lead}
use Rattle.player.proofs.Times.{behind, up_to}
use Rattle.player.proofs.players.Player.reach.Goals as goal

pub returns-in_default : goal.returns-in_default
returns-in_default c =
    let p = c.args.self.now in
    let ks = c.items-kept.result.now in
    let a = p.head.playhead.ms in
    let ordered = ap (sorted earlier) c.items-kept.ensures ∙ p.kept.ordered in
    let point = c.partition_point-first in
    let first = search_prefix (starts_by a) ks (starts_lead a ks ordered) point.result point.ensures.bound point.ensures.partitioned (λ x r f' q. search rules) in
    all_reached a c.args.to.ms c.args.free ks ordered point.result first (ltb-false _ _ (sym c.in_default.ensures.lookup.0))
    ∙ ap (λ l. reach_before (drop c.args.free (filter (starts_in a c.args.to.ms) l)) c.args.to.ms) c.items-kept.ensures

pub returns-then-le : goal.returns-then-le
returns-then-le c =
    let p = c.args.self.now in
    let ks = c.items-kept.result.now in
    let a = p.head.playhead.ms in
    let k = c.in-Some.event.now in
    let ordered = ap (sorted earlier) c.items-kept.ensures ∙ p.kept.ordered in
    let point = c.partition_point-first in
    let first = search_prefix (starts_by a) ks (starts_lead a ks ordered) point.result point.ensures.bound point.ensures.partitioned (λ x r f' q. search rules) in
    let before : c.before-then-le.result.ms ≡ starts k - 1 = ap (λ t. t.ms) c.before-then-le.ensures ∙ ms_time _ (omega (arith, k.span.start.bounded)) in
    let found = c.in-Some.ensures.lookup in
    before
    ∙ halts_before a c.args.to.ms c.args.free ks ordered point.result first k (ltb-true _ _ (sym found.0)) found.1 (up_to (starts k) c.args.to.ms c.if-le.ensures)
    ∙ ap (λ l. reach_before (drop c.args.free (filter (starts_in a c.args.to.ms) l)) c.args.to.ms) c.items-kept.ensures

pub returns-else-le : goal.returns-else-le
returns-else-le c =
    let p = c.args.self.now in
    let ks = c.items-kept.result.now in
    let a = p.head.playhead.ms in
    let k = c.in-Some.event.now in
    let ordered = ap (sorted earlier) c.items-kept.ensures ∙ p.kept.ordered in
    let point = c.partition_point-first in
    let first = search_prefix (starts_by a) ks (starts_lead a ks ordered) point.result point.ensures.bound point.ensures.partitioned (λ x r f' q. search rules) in
    let found = c.in-Some.ensures.lookup in
    reaches_target a c.args.to.ms c.args.free ks ordered point.result first k (ltb-true _ _ (sym found.0)) found.1 (behind (starts k) c.args.to.ms c.if-le.ensures)
    ∙ ap (λ l. reach_before (drop c.args.free (filter (starts_in a c.args.to.ms) l)) c.args.to.ms) c.items-kept.ensures
