-- A player by its values.
--   state p    what a player holds
--   Lent p q   q left p's lent tables as they were behind what it holds
use Rattle.std.specs.Prelude.{length}
use Rattle.calls.specs.State.{State}
use Rattle.player.specs.declared.players.Player.{Player}
use Rattle.player.specs.Rows.{Behind, items}

abbrev pub state : Player → State
state p = record {
  streams = p.head.streams.count;
  playhead = p.head.playhead;
  modes = p.head.modes;
  kept = items p.kept;
  used = items p.used;
  places = length p.kept.slots.now;
  id_places = length p.used.slots.now;
}

abbrev pub Lent : Player → Player → Type 0
Lent p q = Behind p.kept q.kept × Behind p.used q.used
