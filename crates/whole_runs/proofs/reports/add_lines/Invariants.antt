use Rattle.std.proofs.Common.{length}
use Rattle.run.specs.Runs.{left}
use Rattle.whole_runs.proofs.reports.add_lines.Given as goal

-- each turn reports one line
abbrev pub decreases-loop-line : goal.decreases-loop-line
decreases-loop-line l = length (left l.line-iterator)
