use Rattle.std.proofs.Common.{◌≡◌, ◌-◌}
use Rattle.media.specs.Readers.{behind}
use Rattle.media.proofs.readers.Walk.next.Given as goal

abbrev pub invariant-loop-fault : goal.invariant-loop-fault
invariant-loop-fault g l = behind g.R.Records.turns l.stretch l.self ≡ behind g.R.Records.turns l.stretch l.initial.self

abbrev pub decreases-loop-fault : goal.decreases-loop-fault
decreases-loop-fault g l = l.stretch.to - l.self.place
