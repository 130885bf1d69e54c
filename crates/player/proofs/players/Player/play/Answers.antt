use Rattle.std.proofs.Common.{length, sym, ap, ◌∙◌, arith, rules}
use Rattle.event.proofs.Clock.{made_some}
use Rattle.calls.specs.Plays.{due, reach}
use Rattle.tables.specs.Picks.{start_of, starts_in}
use Rattle.player.specs.Rows.{items}
use Rattle.player.specs.Players.{state}
use Rattle.player.specs.Closures.{Pick}
use Rattle.calls.proofs.Playing.{played}
use Rattle.calls.proofs.Reaching.{due_fits}
use Rattle.calls.proofs.Outcomes.{furthest_reach, reach_within, still_over}
use Rattle.player.proofs.Soundness.{moved_sound}
use Rattle.player.proofs.Times.{not_before}
use Rattle.player.proofs.players.Player.play.Goals as goal

pub tell_kept-told-requires-clause-fits : goal.tell_kept-told-requires-clause-fits
tell_kept-told-requires-clause-fits g c =
    let p = c.args.self.now in
    let w = state p in
    let free = (g.S.Sink.held c.args.sink.now).free in
    let target = c.in_ok-target.target.ms in
    let t : Pick = record { passes = starts_in p.head.playhead.ms c.reach-playhead.result.ms; told_at = start_of } in
    let reached = c.reach-playhead.ensures ∙ ap (λ n. reach w n target) c.free_places.ensures in
    let fits = due_fits p.head.playhead.ms target free (items p.kept) p.kept.ordered in
    (t, (λ x y k. search rules, λ x y k. search rules), omega (arith, fits, ap (λ u. length (due w u)) reached))

pub invariant_of-self : goal.invariant_of-self
invariant_of-self g c =
    let p = c.args.self.now in
    let r = c.reach-playhead.result in
    let t : Pick = record { passes = starts_in p.head.playhead.ms r.ms; told_at = start_of } in
    let target = c.in_ok-target.target.ms in
    let within = reach_within (state p) c.free_places.result target (not_before target p.head.playhead.ms c.if-lt.ensures) in
    let kept-is = ap (λ q. q.kept) (c.tell_kept-told.ensures.after t (λ x y k. search rules, λ x y k. search rules)) in
    let reached = c.reach-playhead.ensures in
    record {
      sound = moved_sound p c.tell_kept-told.new.self r t.passes kept-is
          (λ k e f. still_over p.head.playhead.ms r.ms r.ms k (omega (arith, reached, within)) (omega arith) e f);
    }

pub returns-clause-after : goal.returns-clause-after
returns-clause-after g c =
    let p = c.args.self.now in
    let w = state p in
    let h = g.S.Sink.held c.args.sink.now in
    let target = c.in_ok-target.target in
    let made = made_some c.args.to target (sym c.in_ok-target.ensures.ok_part ∙ c.new.ensures) in
    let reached = c.reach-playhead.ensures ∙ ap (λ n. reach w n target.ms) c.free_places.ensures ∙ ap (reach w h.free) made.1 in
    let t : Pick = record { passes = starts_in p.head.playhead.ms c.reach-playhead.result.ms; told_at = start_of } in
    let told = c.tell_kept-told.ensures in
    played c.args.to w (state c.tell_kept-told.new.self) h (g.S.Sink.held c.tell_kept-told.new.sink) c.tell_kept-told.result c.reach-playhead.result
    made.0 (omega (arith, made.1, not_before target.ms p.head.playhead.ms c.if-lt.ensures)) reached
    (told.value t (λ x y k. search rules, λ x y k. search rules)) (told.after t (λ x y k. search rules, λ x y k. search rules)) (told.told t (λ x y k. search rules, λ x y k. search rules))

pub returns-clause-furthest : goal.returns-clause-furthest
returns-clause-furthest g c =
    let p = c.args.self.now in
    let w = state p in
    let h = g.S.Sink.held c.args.sink.now in
    let target = c.in_ok-target.target in
    let made = made_some c.args.to target (sym c.in_ok-target.ensures.ok_part ∙ c.new.ensures) in
    let reached = c.reach-playhead.ensures ∙ ap (λ n. reach w n target.ms) c.free_places.ensures ∙ ap (reach w h.free) made.1 in
    furthest_reach c.args.to w h c.reach-playhead.result.ms p.kept.ordered (omega (arith, made.1, not_before target.ms p.head.playhead.ms c.if-lt.ensures)) reached
