use Rattle.std.proofs.Common.{◌≡◌, map, drop}
use Rattle.catalogue.specs.Catalogues.{named, number, number_from}
use Rattle.catalogue.specs.Pairs.{stream}
use Rattle.catalogue.proofs.catalogues.Catalogue.find.Given as goal

abbrev pub invariant-loop-number : goal.invariant-loop-number
invariant-loop-number l =
    number_from l.number (stream l.pair) (drop l.number (map (named l.media) l.entries)) ≡ number (stream l.pair) (map (named l.media) l.entries)
