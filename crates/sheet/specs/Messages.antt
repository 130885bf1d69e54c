-- The messages of a sheet's events stand within their records.
--   Placed m v r      an event of the fields v, where r is one, has its message at m, with their size
--   stands_within s   the message of each event that a turn over a sheet gives stands within its record
use Rattle.std.proofs.Common.{◌≡◌, ℕ, ◌+◌, eqb, List, length, Some, None, Ok, Err, Option, Result, refl, arith}
use Rattle.std.proofs.lemmas.Bool.{cond_both}
use Rattle.event.specs.declared.events.Event.{Event}
use Rattle.event.specs.declared.faults.Defect.{Defect}
use Rattle.event.specs.declared.faults.Defect.TheVariants.{Flags, NotBase64, Timescale}
use Rattle.event.specs.declared.spans.Span.{Span}
use Rattle.media.specs.Insides.{Within}
use Rattle.media.specs.Readers.{fault}
use Rattle.media.specs.Timescales.{is_timescale}
use Rattle.media.specs.declared.walks.Turn.TheVariants.{Broken, Clean, Passes}
use Rattle.catalogue.specs.Catalogues.{listed}
use Rattle.catalogue.specs.Pairs.{Stream}
use Rattle.sheet.specs.SheetRecords.{Es, Ev, es_record, ev_record}
use Rattle.sheet.specs.SheetWalks.{ev_gives, ev_turn, read_turn, sheet_turn, turns}
use Rattle.sheet.specs.Sheets.{event_of, flags_fit, messaged, opened, span_of, text_fits}
use Rattle.sheet.specs.declared.sheets.EventStream.{EventStream}
use Rattle.sheet.specs.declared.sheets.Sheet.{Sheet}

abbrev pub Placed : ℕ → Ev → Result Event Defect → Type 0
Placed m v (Ok e) = (e.message.place ≡ m) × (e.message.length ≡ v.size)
Placed m v (Err d) = Unit {0}

span_placed : (g : EventStream) (m : ℕ) (v : Ev) (r : Result Span Defect) → Placed m v (messaged g m v r)
span_placed g m v (Ok s) =
    cond_both (text_fits v) (Ok _) (Err NotBase64) (Placed m v) (λ _. (refl, refl)) (λ _. tt)
span_placed g m v (Err d) = tt

placed : (g : EventStream) (m : ℕ) (v : Ev) → Placed m v (event_of g m v)
placed g m v =
    cond_both (flags_fit v) (messaged g m v (span_of g v)) (Err Flags) (Placed m v) (λ _. span_placed g m v (span_of g v)) (λ _. tt)

gives_within : (g : EventStream) (at : ℕ) (v : Ev) (r : Result Event Defect) → Placed (at + 21) v r → Within at (ev_gives g at v r)
gives_within g at v (Ok e) p = (omega (arith, p.0), omega (arith, p.0, p.1))
gives_within g at v (Err d) p = tt

ev_within : (s : Option EventStream) (at : ℕ) (v : Ev) → Within at (ev_turn s at (at + 21) v)
ev_within None at v = tt
ev_within (Some g) at v = gives_within g at v (event_of g (at + 21) v) (placed g (at + 21) v)

read_within : (ts : List Stream) (s : Option EventStream) (at : ℕ) (o : Option Es) (p : Option Ev) → Within at (read_turn ts s at o p)
read_within ts s at (Some e) p =
    cond_both (is_timescale e.timescale) (Passes (Some (opened ts e)) e.length) (Broken (fault at Timescale)) (Within at) (λ _. tt) (λ _. tt)
read_within ts s at None (Some v) = ev_within s at v
read_within ts s at None None = tt

pub sheet_within : (ts : List Stream) (s : Option EventStream) (at : ℕ) (bs : List ℕ) → Within at (sheet_turn ts s at bs)
sheet_within ts s at bs =
    cond_both (eqb (length bs) 0) Clean (read_turn ts s at (es_record bs) (ev_record bs)) (Within at) (λ _. tt) (λ _. read_within ts s at (es_record bs) (ev_record bs))

pub stands_within : (s : Sheet) (g : Option EventStream) (at : ℕ) (bs : List ℕ) → Within at (turns s g at bs)
stands_within s = sheet_within (listed s.catalogue.now)
