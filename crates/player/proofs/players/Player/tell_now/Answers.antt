use Rattle.std.proofs.Common.{sym}
use Rattle.player.specs.Rows.{items}
use Rattle.player.proofs.Soundness.{use_sound}
use Rattle.player.proofs.players.Player.tell_now.Goals as goal

pub invariant_of-self : goal.invariant_of-self
invariant_of-self g c =
    let done = c.mark.ensures in
    record { sound = use_sound c.args.self.now c.args.event (sym c.if-lacks_id_place.ensures) (items c.mark.new.self) _ done.items done.behind.1 c.requires }
