use Rattle.layers.proofs.Agreement.{still, adds}
use Rattle.std.proofs.Common.{refl}
use Rattle.layers.proofs.periods.Period.new.Goals as goal

pub returns : goal.returns
returns g c =
    let below = g.F.Feed.coming c.args.feed in
    record { coming = refl; still = λ zero. rw zero (still below); adds = λ by. adds by c.args.start below }
