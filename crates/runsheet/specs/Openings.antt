-- The catalogue records at the front of a run sheet.
--   opening_turn ts at bs   one turn over them, with the streams ts listed: any other mark ends them
--   opening at bs           the streams that the records at the front of bs list, and the refusal that stops the reading, if one does
--   lengths ss              the length of the records that list these streams
--   refused_too o           1 where a refusal stopped the reading, else 0
--   records_in w            how many records were read, the refused one among them
--   more n k                n records and k more, as far as the count goes
--   opening_of s            the opening that stands next in a run sheet
use Rattle.std.specs.Prelude.{ℕ, zero, suc, ◌+◌, min, cond, List, [], ◌∷◌, length, Some, None, Option}
use Rattle.event.specs.declared.refusals.Refusal.{Refusal}
use Rattle.media.specs.Stretches.{left}
use Rattle.media.specs.Walks.{Walked, given}
use Rattle.media.specs.declared.walks.Turn.TheVariants.{Clean}
use Rattle.catalogue.specs.CatalogueWalks.{CatalogueTurn, record_turn}
use Rattle.catalogue.specs.Pairs.{Stream, listing}
use Rattle.runsheet.specs.Commands.{marked}
use Rattle.runsheet.specs.declared.sheets.RunSheet.{RunSheet}

abbrev pub Opening : Type 0
Opening = Walked Stream Refusal

abbrev pub opening_turn : List Stream → ℕ → List ℕ → CatalogueTurn
opening_turn ts at bs = cond (marked 83 86 bs) (record_turn ts (listing bs)) Clean

abbrev pub opening : ℕ → List ℕ → Opening
opening at bs = given opening_turn [] at bs

abbrev pub lengths : List Stream → ℕ
lengths [] = 0
lengths (s ∷ ss) = 4 + length s.scheme + length s.value + lengths ss

abbrev pub refused_too : Option Refusal → ℕ
refused_too None = 0
refused_too (Some e) = 1

abbrev pub records_in : Opening → ℕ
records_in w = length w.items + refused_too w.stop

abbrev pub more : ℕ → ℕ → ℕ
more n zero = n
more n (suc k) = min (more n k + 1) 18446744073709551615

abbrev pub opening_of : RunSheet → Opening
opening_of s = opening s.place (left s.stretch s.place)
