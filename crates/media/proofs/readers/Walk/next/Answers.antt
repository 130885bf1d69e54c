use Rattle.std.proofs.Common.{◌∙◌}
use Rattle.media.proofs.ReaderSteps.{turned}
use Rattle.media.proofs.readers.Walk.next.Goals as goal

pub returns-in-Clean : goal.returns-in-Clean
returns-in-Clean g c =
    turned g.R.Records.turns g.met.R.Records.forward c.args.stretch c.loop-fault.self _ c.in-Clean.ensures ∙ c.loop-fault.invariant

pub returns-in-Broken : goal.returns-in-Broken
returns-in-Broken g c =
    turned g.R.Records.turns g.met.R.Records.forward c.args.stretch c.loop-fault.self _ c.in-Broken.ensures ∙ c.loop-fault.invariant

pub returns-in-Gives : goal.returns-in-Gives
returns-in-Gives g c =
    turned g.R.Records.turns g.met.R.Records.forward c.args.stretch c.loop-fault.self _ c.in-Gives.ensures ∙ c.loop-fault.invariant

pub loop-fault-preserved : goal.loop-fault-preserved
loop-fault-preserved g c =
    turned g.R.Records.turns g.met.R.Records.forward c.args.stretch c.loop-fault.self _ c.in-Passes.ensures ∙ c.loop-fault.invariant
