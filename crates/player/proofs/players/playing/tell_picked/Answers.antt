use Rattle.std.proofs.Common.{true, false, filter, sym, refl, ap, ◌∙◌, arith}
use Rattle.std.proofs.lemmas.Fn.{says_at}
use Rattle.std.proofs.lemmas.List.{take_all}
use Rattle.event.specs.declared.modes.Trigger.TheVariants.{Start}
use Rattle.tables.specs.Elements.{dispatched}
use Rattle.calls.specs.Plays.{marked_all}
use Rattle.player.specs.Rows.{items}
use Rattle.player.proofs.Telling.{behind_marked, place_left, room_left, told_one, told_skip}
use Rattle.player.proofs.players.playing.tell_picked.Goals as goal
use Rattle.player.proofs.players.playing.tell_picked.Goals.{then-picks, else-picks}

pub tell_free-requires : goal.tell_free-requires
tell_free-requires g c =
    let fits = c.requires.fits in
    place_left (c.loop-event.invariant.0 fits.0 fits.1) (omega arith) c.event-item.is (sym (fits.1.0 _ true (says_at g.F.Fn c.picks.ensures c.if-picks.true))) fits.2

pub mark-requires : goal.mark-requires
mark-requires g c =
    let fits = c.requires.fits in
    let inv = c.loop-event.invariant in
    omega (arith, room_left (inv.0 fits.0 fits.1) (omega arith) c.event-item.is (sym (fits.1.0 _ true (says_at g.F.Fn c.picks.ensures c.if-picks.true))) inv.1.1 fits.3)

pub loop-event-preserved : goal.loop-event-preserved
loop-event-preserved g c =
    let inv = c.loop-event.invariant in
    let x = c.event-item.result in
    elim c.if-picks.branch [
      | then-picks w ↦
          let done = w.mark.ensures in
          rw (w.used-is, w.sink-is) (
            λ t is.
                let at = is.1 _ w.position.result (says_at g.P.Fn w.position.ensures refl) in
                told_one (inv.0 t is) (omega arith) c.event-item.is (sym (is.0 _ true (says_at g.F.Fn c.picks.ensures w.if-picks.true)))
                w.mark.new.self (g.S.Sink.held w.tell_free.new.sink) w.dispatch.result (w.dispatch.ensures ∙ ap (λ p. dispatched p Start x) at) w.tell_free.ensures done.items,
            behind_marked c.args.used.now c.loop-event.used w.mark.new.self x inv.1 done.items done.behind,
          )
      | else-picks w ↦
          rw (w.used-is, w.sink-is) (
            λ t is. told_skip (inv.0 t is) (omega arith) c.event-item.is (sym (is.0 _ false (says_at g.F.Fn c.picks.ensures w.if-picks.false))),
            inv.1,
          )
    ]

pub returns-clause-items : goal.returns-clause-items
returns-clause-items g c = λ t is.
    (c.loop-event.invariant.0 t is).used ∙ ap (λ l. marked_all (filter t.passes l) (items c.args.used.now)) (take_all _ _ (omega arith))
