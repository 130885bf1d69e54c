use Rattle.std.proofs.Common.{length, ap, arith}
use Rattle.media.proofs.Parts.{part_fits}
use Rattle.sheet.specs.Lengths.{ev_long}
use Rattle.sheet.specs.SheetRecords.{ev}
use Rattle.sheet.proofs.sheets.turns.SheetRecordsOptionEventStream.turn.Goals as goal

pub overflow_add-place : goal.overflow_add-place
overflow_add-place c =
    let long = ev_long c.left-bytes.result.now (ev c.in-Some-read.given) c.in-Some-read.ensures in
    let fits = part_fits c.args.stretch.media.now c.args.place c.args.stretch.to in
    omega (arith, ap length c.left-bytes.ensures)
