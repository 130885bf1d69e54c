-- A refusal has the same number whatever the call would have answered.
use Rattle.std.proofs.Common.{◌≡◌, ℕ, List, [], sym, refl, ap, ◌∙◌}
use Rattle.event.specs.Numbers.{refusal}
use Rattle.event.specs.Numbers.Answer.{refused, refused_with}
use Rattle.event.specs.Sinks.{Held}
use Rattle.event.specs.declared.faults.Fault.{Fault}
use Rattle.event.specs.declared.refusals.Refusal.{Refusal}
use Rattle.event.specs.declared.refusals.Refusal.TheVariants.{CatalogueRecord, CatalogueString, ListedTwice, CatalogueFull, OutsideMedia, Unreadable, TableSize, UnknownStream, NotAFollowMode, AlreadyFollowed, NotFollowed, TargetPastLatest, BehindPlayhead, NoEventPlace, NoIdPlace, NoFreePlace, RangeBackward, AtFault, SinkFull, OutsideBuffer, BufferShort, RunSheetRecord}
use Rattle.catalogue.specs.Pairs.{Stream}
use Rattle.calls.specs.State.{State}
use Rattle.runsheet.specs.Openings.{Opening, more, records_in}
use Rattle.run.specs.Lines.{closing, listed_in, opened, reports}

data Both (X Y : Type 0) (e : Refusal) : Type 0 where
  plain : (k : ℕ) → refusal {X = X} e ≡ refused k → refusal {X = Y} e ≡ refused k → Both X Y e
  carrying : (k : ℕ) (f : Fault) → refusal {X = X} e ≡ refused_with k f → refusal {X = Y} e ≡ refused_with k f → Both X Y e

both : (X Y : Type 0) (e : Refusal) → Both X Y e
both X Y CatalogueRecord = plain _ refl refl
both X Y CatalogueString = plain _ refl refl
both X Y ListedTwice = plain _ refl refl
both X Y CatalogueFull = plain _ refl refl
both X Y OutsideMedia = plain _ refl refl
both X Y (Unreadable d) = plain _ refl refl
both X Y TableSize = plain _ refl refl
both X Y UnknownStream = plain _ refl refl
both X Y NotAFollowMode = plain _ refl refl
both X Y AlreadyFollowed = plain _ refl refl
both X Y NotFollowed = plain _ refl refl
both X Y TargetPastLatest = plain _ refl refl
both X Y BehindPlayhead = plain _ refl refl
both X Y NoEventPlace = plain _ refl refl
both X Y NoIdPlace = plain _ refl refl
both X Y NoFreePlace = plain _ refl refl
both X Y RangeBackward = plain _ refl refl
both X Y (AtFault f) = carrying _ _ refl refl
both X Y SinkFull = plain _ refl refl
both X Y OutsideBuffer = plain _ refl refl
both X Y BufferShort = plain _ refl refl
both X Y RunSheetRecord = plain _ refl refl

module _ (media : List ℕ) (o : Opening) (e : Refusal) where
  opened_by : Both (Unit {0}) (List Stream) e → (w : State) (h : Held) → reports [] (more 0 (records_in o)) (refusal e) (closing w) ≡ opened media o (refusal e) w h
  opened_by (plain k p q) w h = ap (λ a. reports [] (more 0 (records_in o)) a (closing w)) p ∙ ap (λ a. opened media o a w h) (sym q)
  opened_by (carrying k f p q) w h = ap (λ a. reports [] (more 0 (records_in o)) a (closing w)) p ∙ ap (λ a. opened media o a w h) (sym q)

  -- a run sheet whose catalogue is refused
  pub opened_refused : (w : State) (h : Held) → reports [] (more 0 (records_in o)) (refusal e) (closing w) ≡ opened media o (refusal e) w h
  opened_refused = opened_by (both (Unit {0}) (List Stream) e)

listed_by_lem : (e : Refusal) → Both (Unit {0}) (List Stream) e → 0 ≡ listed_in (refusal e)
listed_by_lem e (plain k p q) = ap listed_in (sym q)
listed_by_lem e (carrying k f p q) = ap listed_in (sym q)

pub none_listed : (e : Refusal) → 0 ≡ listed_in (refusal e)
none_listed e = listed_by_lem e (both (Unit {0}) (List Stream) e)
