-- What a call answers, by the numbers of the rules.
--   defect_number d   the number of what is wrong with bytes or times
--   Answer            what a call did, or the number it refused with, or that number with the fault that it carries
--   refusal e         the number, and the fault where there is one, of each refusal
--   answer r          a call's result as an answer
--   number a          the number of a refusal; 0 where the call was done
use Rattle.std.specs.Prelude.{ℕ, Ok, Err, Result}
use Rattle.event.specs.declared.faults.Defect.{Defect}
use Rattle.event.specs.declared.faults.Defect.TheVariants.{Timescale, BoxSize, BoxFields, BelowZero, PastLatest, CutRecord, NoEventStream, Flags, NotBase64}
use Rattle.event.specs.declared.faults.Fault.{Fault}
use Rattle.event.specs.declared.refusals.Refusal.{Refusal}
use Rattle.event.specs.declared.refusals.Refusal.TheVariants.{CatalogueRecord, CatalogueString, ListedTwice, CatalogueFull, OutsideMedia, Unreadable, TableSize, UnknownStream, NotAFollowMode, AlreadyFollowed, NotFollowed, TargetPastLatest, BehindPlayhead, NoEventPlace, NoIdPlace, NoFreePlace, RangeBackward, AtFault, SinkFull, OutsideBuffer, BufferShort, RunSheetRecord}

abbrev pub defect_number : Defect → ℕ
defect_number Timescale = 6
defect_number BoxSize = 7
defect_number BoxFields = 8
defect_number BelowZero = 9
defect_number PastLatest = 10
defect_number CutRecord = 11
defect_number NoEventStream = 12
defect_number Flags = 13
defect_number NotBase64 = 14

pub data Answer (X : Type 0) : Type 0 where
  did : X → Answer X
  refused : ℕ → Answer X
  refused_with : ℕ → Fault → Answer X

abbrev pub refusal : {X : Type 0} → Refusal → Answer X
refusal CatalogueRecord = refused 1
refusal CatalogueString = refused 2
refusal ListedTwice = refused 3
refusal CatalogueFull = refused 4
refusal OutsideMedia = refused 5
refusal (Unreadable d) = refused (defect_number d)
refusal TableSize = refused 15
refusal UnknownStream = refused 16
refusal NotAFollowMode = refused 17
refusal AlreadyFollowed = refused 18
refusal NotFollowed = refused 19
refusal TargetPastLatest = refused 20
refusal BehindPlayhead = refused 21
refusal NoEventPlace = refused 22
refusal NoIdPlace = refused 23
refusal NoFreePlace = refused 24
refusal RangeBackward = refused 25
refusal (AtFault f) = refused_with 26 f
refusal SinkFull = refused 27
refusal OutsideBuffer = refused 28
refusal BufferShort = refused 29
refusal RunSheetRecord = refused 30

abbrev pub answer : {X : Type 0} → Result X Refusal → Answer X
answer (Ok x) = did x
answer (Err e) = refusal e

abbrev pub number : {X : Type 0} → Answer X → ℕ
number (did x) = 0
number (refused n) = n
number (refused_with n f) = n
