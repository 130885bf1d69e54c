-- The walk over the records of a catalogue.
--   admitted ts s o           a turn over a record of the stream s, which is listed behind ts unless o says why not
--   record_turn ts o          a turn over a record, where o is its stream; refused where it has none
--   catalogue_turn ts at bs   one turn over the bytes bs: a clean end where none is left
--   all_listed w              the streams of a walk, or the number of what stopped it
--   catalogue at bs           the streams that the bytes bs list, which stand at a place, or the number of the first record's refusal
--   read r                    what the reading of a catalogue answers
use Rattle.std.specs.Prelude.{ℕ, ◌+◌, cond, List, [], ◌∷◌, ◌++◌, length, Some, None, Ok, Err, Option, Result, ◌==◌}
use Rattle.event.specs.Numbers.{Answer, refusal}
use Rattle.event.specs.Numbers.Answer.{did}
use Rattle.event.specs.declared.refusals.Refusal.{Refusal}
use Rattle.event.specs.declared.refusals.Refusal.TheVariants.{CatalogueRecord}
use Rattle.media.specs.Walks.{Walked, given}
use Rattle.media.specs.declared.walks.Turn.{Turn}
use Rattle.media.specs.declared.walks.Turn.TheVariants.{Clean, Broken, Gives}
use Rattle.catalogue.specs.Catalogues.{flaw, listed}
use Rattle.catalogue.specs.Pairs.{Stream, listing}
use Rattle.catalogue.specs.declared.catalogues.Catalogue.{Catalogue}

abbrev pub CatalogueTurn : Type 0
CatalogueTurn = Turn Stream Refusal (List Stream)

abbrev pub admitted : List Stream → Stream → Option Refusal → CatalogueTurn
admitted ts s None = Gives s (ts ++ s ∷ []) (4 + length s.scheme + length s.value)
admitted ts s (Some e) = Broken e

abbrev pub record_turn : List Stream → Option Stream → CatalogueTurn
record_turn ts None = Broken CatalogueRecord
record_turn ts (Some s) = admitted ts s (flaw s ts)

abbrev pub catalogue_turn : List Stream → ℕ → List ℕ → CatalogueTurn
catalogue_turn ts at bs = cond (length bs == 0) Clean (record_turn ts (listing bs))

abbrev pub answered : Option Refusal → List Stream → Answer (List Stream)
answered None ts = did ts
answered (Some e) ts = refusal e

abbrev pub all_listed : Walked Stream Refusal → Answer (List Stream)
all_listed w = answered w.stop w.items

abbrev pub catalogue : ℕ → List ℕ → Answer (List Stream)
catalogue at bs = all_listed (given catalogue_turn [] at bs)

abbrev pub read : Result Catalogue Refusal → Answer (List Stream)
read (Ok c) = did (listed c)
read (Err e) = refusal e
