use Rattle.std.proofs.Common.{Some, refl, ap}
use Rattle.std.proofs.lemmas.Bool.{le-leb}
use Rattle.event.proofs.Clock.{time_of}
use Rattle.event.proofs.times.Time.new.Goals as goal

pub returns-then-ms-le-LATEST : goal.returns-then-ms-le-LATEST
returns-then-ms-le-LATEST c =
    let h = c.if-ms-le-LATEST.true in
    rw (le-leb c.args.ms 4000000000000 h) (ap Some (time_of _ c.args.ms h refl))
