use Rattle.std.proofs.Common.{ℕ, [], length, replicate, refl, ap, arith}
use Rattle.event.specs.declared.modes.Mode.TheVariants.{Off}
use Rattle.event.specs.declared.times.Time.{Time}
use Rattle.event.proofs.Clock.{time_of}
use Rattle.calls.specs.State.{State}
use Rattle.calls.proofs.Followed.{told_once}
use Rattle.calls.proofs.Lasting.{new_world, none_active_lem}
use Rattle.calls.proofs.Stopping.{stops_nothing}
use Rattle.calls.proofs.Tallying.{tallied}
use Rattle.player.proofs.players.Player.new.Goals as goal

pub returns : goal.returns
returns c =
    let n : ℕ = c.args.streams.count in
    let k : ℕ = length c.args.tables.kept.now in
    let m : ℕ = length c.args.tables.used.now in
    let few = c.args.streams.few in
    let at : Time → State = λ t. record { streams = n; playhead = t; modes = replicate 32 Off; kept = []; used = []; places = k; id_places = m } in
    record {
      value = ap at (time_of _ 0 (omega arith) refl);
      slots = (refl, refl);
      stops_change_nothing = λ h e. stops_nothing n k m h.free _ (new_world n k m _ h few (ap at (time_of _ 0 (omega arith) refl)) e);
      once_while_followed = λ h e. told_once n k m h.free _ (new_world n k m _ h few (ap at (time_of _ 0 (omega arith) refl)) e);
      none_kept_active = λ h e. none_active_lem n k m h.free _ (new_world n k m _ h few (ap at (time_of _ 0 (omega arith) refl)) e);
      tally_adds_up = λ h e. tallied n k m h.free _ (new_world n k m _ h few (ap at (time_of _ 0 (omega arith) refl)) e);
    }
