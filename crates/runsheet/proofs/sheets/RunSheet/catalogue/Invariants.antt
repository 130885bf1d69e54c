use Rattle.std.proofs.Common.{◌≡◌, ◌+◌, ◌-◌, [], length}
use Rattle.catalogue.specs.Catalogues.{listed}
use Rattle.catalogue.proofs.CatalogueSteps.{before}
use Rattle.runsheet.specs.Openings.{lengths, more}
use Rattle.runsheet.proofs.OpeningSteps.{on_from}
use Rattle.runsheet.proofs.sheets.RunSheet.catalogue.Given as goal

-- what is listed and what is left make the opening
abbrev pub invariant-loop-self : goal.invariant-loop-self
invariant-loop-self l =
    let s = l.initial.self in
    let ts = listed l.catalogue in
    (l.self.stretch ≡ s.stretch) × (l.catalogue.stretch ≡ s.stretch)
    × (before ts (on_from s.stretch l.self.place ts) ≡ on_from s.stretch s.place [])
    × (l.self.place ≡ s.place + lengths ts)
    × (l.self.count ≡ more s.count (length ts))

abbrev pub decreases-loop-self : goal.decreases-loop-self
decreases-loop-self l = l.self.stretch.to - l.self.place
