use Rattle.layers.proofs.Agreement.{through, chains}
use Rattle.std.proofs.Common.{refl}
use Rattle.layers.proofs.joins.Join.new.Goals as goal

pub returns : goal.returns
returns g c =
    let b = g.F.Feed.coming c.args.first in let d = g.G.Feed.coming c.args.second in
    record { coming = refl; through = λ start. through start b d; chains = λ third. chains b d third }
