use Rattle.calls.specs.Plays.{told_by}
use Rattle.player.specs.Rows.{Behind}
use Rattle.player.specs.Closures.{Picks}
use Rattle.player.proofs.Telling.{Told}
use Rattle.player.proofs.players.playing.tell_picked.Given as goal

abbrev pub invariant-loop-event : goal.invariant-loop-event
invariant-loop-event g l =
    ((t : _) → Picks g.F.Fn g.P.Fn t l.picks l.position →
    Told t.passes (told_by t.told_at) l.kept l.fn.used l.used (g.S.Sink.held l.fn.sink) (g.S.Sink.held l.sink) l.event-index)
    × Behind l.fn.used l.used
