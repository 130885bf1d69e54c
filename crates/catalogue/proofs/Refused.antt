-- A refusal is the same answer whatever the call would have answered.
use Rattle.std.proofs.Common.{◌≡◌, sym, refl, ap, ◌∙◌}
use Rattle.event.specs.Numbers.{Answer, refusal}
use Rattle.event.specs.Numbers.Answer.{did, refused, refused_with}
use Rattle.event.specs.declared.refusals.Refusal.{Refusal}
use Rattle.event.specs.declared.refusals.Refusal.TheVariants.{CatalogueRecord, CatalogueString, ListedTwice, CatalogueFull, OutsideMedia, Unreadable, TableSize, UnknownStream, NotAFollowMode, AlreadyFollowed, NotFollowed, TargetPastLatest, BehindPlayhead, NoEventPlace, NoIdPlace, NoFreePlace, RangeBackward, AtFault, SinkFull, OutsideBuffer, BufferShort, RunSheetRecord}

abbrev carried : {X Y : Type 0} → Answer X → Answer Y
carried (did x) = refused 0
carried (refused n) = refused n
carried (refused_with n f) = refused_with n f

refusal_as : (X Y : Type 0) (e : Refusal) → refusal {X = Y} e ≡ carried {X = X} {Y = Y} (refusal {X = X} e)
refusal_as X Y CatalogueRecord = refl
refusal_as X Y CatalogueString = refl
refusal_as X Y ListedTwice = refl
refusal_as X Y CatalogueFull = refl
refusal_as X Y OutsideMedia = refl
refusal_as X Y (Unreadable d) = refl
refusal_as X Y TableSize = refl
refusal_as X Y UnknownStream = refl
refusal_as X Y NotAFollowMode = refl
refusal_as X Y AlreadyFollowed = refl
refusal_as X Y NotFollowed = refl
refusal_as X Y TargetPastLatest = refl
refusal_as X Y BehindPlayhead = refl
refusal_as X Y NoEventPlace = refl
refusal_as X Y NoIdPlace = refl
refusal_as X Y NoFreePlace = refl
refusal_as X Y RangeBackward = refl
refusal_as X Y (AtFault f) = refl
refusal_as X Y SinkFull = refl
refusal_as X Y OutsideBuffer = refl
refusal_as X Y BufferShort = refl
refusal_as X Y RunSheetRecord = refl

pub same_refusal : (X Y : Type 0) (d e : Refusal) → refusal {X = X} d ≡ refusal {X = X} e → refusal {X = Y} d ≡ refusal {X = Y} e
same_refusal X Y d e q = refusal_as X Y d ∙ ap (carried {X = X} {Y = Y}) q ∙ sym (refusal_as X Y e)
