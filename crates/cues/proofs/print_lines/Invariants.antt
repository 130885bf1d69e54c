use Rattle.std.proofs.Common.{length}
use Rattle.run.specs.Runs.{left}
use Rattle.cues.proofs.print_lines.Given as goal

-- each turn reports one line
abbrev pub decreases-loop-line : goal.decreases-loop-line
decreases-loop-line g l = length (left l.line-iterator)
