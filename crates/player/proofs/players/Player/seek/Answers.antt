use Rattle.std.proofs.Common.{length, filter, sym, ap, ◌∙◌, arith, rules}
use Rattle.event.proofs.Clock.{made_some}
use Rattle.tables.specs.Elements.{active_at}
use Rattle.tables.specs.Picks.{at_time}
use Rattle.player.specs.Players.{state}
use Rattle.player.specs.Closures.{Pick}
use Rattle.calls.proofs.Leaving.{seeks_full, sought}
use Rattle.player.proofs.Soundness.{moved_sound}
use Rattle.player.proofs.players.Player.seek.Goals as goal

pub returns-then-free_places-count_active-clause-after : goal.returns-then-free_places-count_active-clause-after
returns-then-free_places-count_active-clause-after g c =
    let w = state c.args.self.now in
    let target = c.in_ok-target.target in
    let made = made_some c.args.to target (sym c.in_ok-target.ensures.ok_part ∙ c.new.ensures) in
    seeks_full c.args.to w (g.S.Sink.held c.args.sink.now) made.0
    (omega (arith, c.free_places.ensures, c.count_active.ensures, ap (λ n. length (filter (active_at n) w.kept)) made.1))

pub tell_kept-told-requires-clause-fits : goal.tell_kept-told-requires-clause-fits
tell_kept-told-requires-clause-fits g c =
    let target = c.in_ok-target.target in
    let t : Pick = record { passes = active_at target.ms; told_at = at_time target } in
    (t, (λ x y k. search rules, λ x y k. search rules), omega (arith, c.free_places.ensures, c.count_active.ensures))

pub invariant_of-self : goal.invariant_of-self
invariant_of-self g c =
    let target = c.in_ok-target.target in
    let t : Pick = record { passes = active_at target.ms; told_at = at_time target } in
    let kept-is = ap (λ q. q.kept) (c.tell_kept-told.ensures.after t (λ x y k. search rules, λ x y k. search rules)) in
    record { sound = moved_sound c.args.self.now c.tell_kept-told.new.self target t.passes kept-is (λ k e f. f) }

pub returns-clause-after : goal.returns-clause-after
returns-clause-after g c =
    let w = state c.args.self.now in
    let h = g.S.Sink.held c.args.sink.now in
    let target = c.in_ok-target.target in
    let made = made_some c.args.to target (sym c.in_ok-target.ensures.ok_part ∙ c.new.ensures) in
    let t : Pick = record { passes = active_at target.ms; told_at = at_time target } in
    let told = c.tell_kept-told.ensures in
    sought c.args.to w h target (state c.tell_kept-told.new.self) (g.S.Sink.held c.tell_kept-told.new.sink) c.tell_kept-told.result made.0 made.1
    (omega (arith, c.free_places.ensures, c.count_active.ensures))
    (told.value t (λ x y k. search rules, λ x y k. search rules)) (told.after t (λ x y k. search rules, λ x y k. search rules)) (told.told t (λ x y k. search rules, λ x y k. search rules))
