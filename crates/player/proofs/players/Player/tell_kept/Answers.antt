use Rattle.std.proofs.Common.{◌-◌, length, filter, refl, ap, ◌∙◌, arith}
use Rattle.player.specs.declared.players.Head.{Head}
use Rattle.calls.specs.Plays.{marked_all}
use Rattle.calls.specs.State.{ids}
use Rattle.player.specs.Rows.{items}
use Rattle.tables.specs.Tables.{fails}
use Rattle.std.proofs.lemmas.List.Filters.{length-filter_both}
use Rattle.player.proofs.Soundness.{items_length, length_filter, tell_fewer, tell_more, tell_room, tell_sound}
use Rattle.player.proofs.players.Player.tell_kept.Goals as goal

pub tell_picked-requires-clause-fits : goal.tell_picked-requires-clause-fits
tell_picked-requires-clause-fits g c =
    let fits = c.requires.fits in
    let p = c.args.self.now in
    let picked = ap (filter fits.0.passes) c.items.ensures in
    (fits.0, fits.1, omega (arith, fits.2, ap length picked), omega (arith, tell_room p fits.0.passes, ap ids picked))

pub overflow_sub-self : goal.overflow_sub-self
overflow_sub-self g c =
    let t = c.requires.fits in
    let p = c.args.self.now in
    let used = c.tell_picked.new.used in
    let used-is = c.tell_picked.ensures.items t.0 t.1 ∙ ap (λ l. marked_all (filter t.0.passes l) (items p.used)) c.items.ensures in
    omega (arith, items_length p.used, items_length used, tell_more p t.0.passes (items used) used-is)

pub overflow_sub-self-2 : goal.overflow_sub-self-2
overflow_sub-self-2 g c =
    let t = c.requires.fits in
    let p = c.args.self.now in
    let used = c.tell_picked.new.used in
    let used-is = c.tell_picked.ensures.items t.0 t.1 ∙ ap (λ l. marked_all (filter t.0.passes l) (items p.used)) c.items.ensures in
    omega (arith, items_length p.used, items_length used, tell_fewer p t.0.passes (items used) used-is)

pub invariant_of-self : goal.invariant_of-self
invariant_of-self g c =
    let t = c.requires.fits in
    let p = c.args.self.now in
    let used = c.tell_picked.new.used in
    let used-is = c.tell_picked.ensures.items t.0 t.1 ∙ ap (λ l. marked_all (filter t.0.passes l) (items p.used)) c.items.ensures in
    let h : Head = record { streams = p.head.streams; playhead = p.head.playhead; modes = p.head.modes; kept_ids = p.head.kept_ids - (used.len - p.used.len) } in
    record {
      sound = tell_sound p t.0.passes (items used) used-is h (items c.remove.new.self) _ (c.remove.ensures.items t.0.passes t.1.0) c.tell_picked.ensures.behind.1
          (omega (arith, items_length p.used, items_length used)) refl;
    }

pub returns-clause-after : goal.returns-clause-after
returns-clause-after g c = λ t is.
    let p = c.args.self.now in
    let kept-is = c.remove.ensures.items t.passes is.0 in
    let used-is = c.tell_picked.ensures.items t is ∙ ap (λ l. marked_all (filter t.passes l) (items p.used)) c.items.ensures in
    let places = c.remove.ensures.behind.1 in
    let id-places = c.tell_picked.ensures.behind.1 in
    cc

pub overflow_sub-result : goal.overflow_sub-result
overflow_sub-result g c =
    let p = c.args.self.now in
    let t = c.requires.fits in
    omega (arith, items_length p.kept, items_length c.remove.new.self, ap length (c.remove.ensures.items t.0.passes t.1.0), length_filter (fails t.0.passes) (items p.kept))

pub returns-clause-value : goal.returns-clause-value
returns-clause-value g c = λ t is.
    let old = c.args.self.now.kept in
    omega (arith, items_length old, items_length c.remove.new.self, ap length (c.remove.ensures.items t.passes is.0), length-filter_both t.passes (fails t.passes) (λ _. refl) (items old))
