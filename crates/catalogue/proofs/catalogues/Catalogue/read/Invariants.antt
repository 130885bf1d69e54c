use Rattle.std.proofs.Common.{◌≡◌, ◌-◌, []}
use Rattle.catalogue.specs.Catalogues.{Sound, listed}
use Rattle.catalogue.proofs.CatalogueSteps.{before, on_from}
use Rattle.catalogue.proofs.catalogues.Catalogue.read.Given as goal

abbrev pub invariant-loop-stretch : goal.invariant-loop-stretch
invariant-loop-stretch l =
    (before (listed l.all) (on_from l.stretch l.place (listed l.all)) ≡ on_from l.stretch l.stretch.from []) × (l.all.stretch ≡ l.stretch) × Sound (listed l.all)

abbrev pub decreases-loop-stretch : goal.decreases-loop-stretch
decreases-loop-stretch l = l.stretch.to - l.place
