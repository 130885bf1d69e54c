use Rattle.std.proofs.Common.{refl}
use Rattle.sheet.specs.SheetRecords.{ev}
use Rattle.sheet.proofs.Judgements.{event_from}
use Rattle.sheet.proofs.sheets.records.EvRecord.event.Goals as goal

pub returns : goal.returns
returns c =
    event_from c.args.stream c.args.place (ev c.args.self) c.in_ok-span.span c.id.result _ _ c.has.result c.if-not-flags_fit.ensures c.in_ok-span.ensures c.if-not-text_fits.ensures c.id.ensures refl c.from.ensures c.has.ensures
