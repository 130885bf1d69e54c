use Rattle.std.proofs.Common.{◌≡◌, cond, sym, ap, ◌∙◌, arith}
use Rattle.tables.specs.Elements.{has_id}
use Rattle.player.specs.Rows.{items}
use Rattle.player.proofs.Soundness.{byte_is_one, items_length, keep_fits, keep_sound}
use Rattle.player.proofs.players.Player.keep.Goals as goal

pub overflow_add-self : goal.overflow_add-self
overflow_add-self c =
    let p = c.args.self.now in
    let one : c.from.result ≡ cond (has_id c.args.event) 1 0 = c.from.ensures ∙ byte_is_one c.is_some.result ∙ ap (λ b. cond b 1 0) c.is_some.ensures in
    omega (arith, keep_fits p c.args.event (items c.insert.new.self) c.from.result c.insert.ensures.items (sym c.if-lacks_id_place.ensures) one c.requires.unknown c.requires.later, items_length p.kept)

pub invariant_of-self : goal.invariant_of-self
invariant_of-self c =
    let p = c.args.self.now in
    let one : c.from.result ≡ cond (has_id c.args.event) 1 0 = c.from.ensures ∙ byte_is_one c.is_some.result ∙ ap (λ b. cond b 1 0) c.is_some.ensures in
    record { sound = keep_sound p c.args.event (items c.insert.new.self) c.from.result c.insert.ensures.items (sym c.if-lacks_id_place.ensures) one c.requires.unknown c.requires.later }
