use Rattle.std.proofs.Common.{Some, refl, ap}
use Rattle.std.proofs.lemmas.Bool.{and_from, le-leb}
use Rattle.media.proofs.Fractions.{timescale_of}
use Rattle.media.proofs.timescales.Timescale.new.Goals as goal

pub returns-then-ticks-le-MOST : goal.returns-then-ticks-le-MOST
returns-then-ticks-le-MOST c =
    let lo = c.if-ticks-ge1.true in
    let hi = c.if-ticks-le-MOST.true in
    rw (and_from _ _ (le-leb 1 c.args.ticks lo) (le-leb c.args.ticks 10000000 hi)) (ap Some (timescale_of _ c.args.ticks lo hi refl))
