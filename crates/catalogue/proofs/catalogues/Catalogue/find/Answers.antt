use Rattle.std.proofs.Common.{true, false, map, sym, ap, ◌∙◌}
use Rattle.catalogue.specs.Catalogues.{named, number}
use Rattle.catalogue.specs.Pairs.{stream}
use Rattle.catalogue.proofs.Entries.{looks}
use Rattle.catalogue.proofs.catalogues.Catalogue.find.Goals as goal

pub returns-then-eq : goal.returns-then-eq
returns-then-eq c =
    sym (looks c.args.self.now.stretch.media.now c.entries-entries.result.now _ _ _ _ true c.loop-number-test.true c.pair.ensures c.if-eq.ensures) ∙ c.loop-number.invariant ∙
    ap (λ es. number (stream c.args.pair) (map (named c.args.self.now.stretch.media.now) es)) c.entries-entries.ensures.value

pub loop-number-preserved : goal.loop-number-preserved
loop-number-preserved c =
    sym (looks c.args.self.now.stretch.media.now c.entries-entries.result.now _ _ _ _ false c.loop-number-test.true c.pair.ensures c.if-eq.ensures) ∙ c.loop-number.invariant
