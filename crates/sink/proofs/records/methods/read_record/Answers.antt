use Rattle.event.specs.declared.faults.Defect.TheVariants.{CutRecord}
use Rattle.std.proofs.Common.{Err, sym, ◌∙◌}
use Rattle.sink.specs.Records.{checked, marked, record_at}
use Rattle.sink.proofs.Found.{answered}
use Rattle.sink.proofs.records.methods.read_record.Goals as goal

pub returns : goal.returns
returns c =
    let bytes = c.args.bytes.now in
    answered (marked bytes) c.in_ok-record.record (record_at bytes) checked c.try_from.result (Err CutRecord) (sym c.in_ok-record.ensures.ok_part ∙ c.at.ensures) c.try_from.ensures
