use Rattle.std.proofs.Common.{◌+◌, ◌*◌, ◌/◌, ◌%◌, ◌<◌, cond, leb, Some, None, sym, ap, ◌∙◌, subst}
use Rattle.std.proofs.lemmas.Bool.{cond-false, lt-leb}
use Rattle.event.specs.Times.{latest, time}
use Rattle.media.specs.Timescales.{millis}
use Rattle.media.proofs.Fractions.{by_seconds, past}
use Rattle.media.proofs.timescales.Timescale.time.Goals as goal

pub returns-then-seconds : goal.returns-then-seconds
returns-then-seconds c =
    let h : 0 < c.args.self.ticks = c.args.self.proper.0 in
    let many = subst (λ t. 4000000000 < c.args.n / t) c.from-ticks.ensures c.if-seconds.true in
    sym (cond-false _ (Some (time (millis c.args.n c.args.self.ticks))) None (lt-leb _ latest (past c.args.n c.args.self.ticks h many)))

pub returns : goal.returns
returns c =
    let h : 0 < c.args.self.ticks = c.args.self.proper.0 in
    let same = ap (λ t. c.args.n / t * 1000 + c.args.n % t * 1000 / t) c.from-ticks.ensures in
    c.new.ensures ∙ ap (λ n. cond (leb n latest) (Some (time n)) None) (same ∙ by_seconds c.args.n c.args.self.ticks h)
