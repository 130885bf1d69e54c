use Rattle.std.proofs.Common.{◌≡◌}
use Rattle.run.specs.Runs.{pending, to_come, to_read}
use Rattle.run.proofs.runs.Run.read_on.Given as goal

-- the lines to come are the same
abbrev pub invariant-loop-self : goal.invariant-loop-self
invariant-loop-self l = (pending l.self ≡ pending l.initial.self) × (to_come l.self ≡ to_come l.initial.self) × (l.self.stage ≡ l.initial.self.stage)

abbrev pub decreases-loop-self : goal.decreases-loop-self
decreases-loop-self l = to_read l.self
