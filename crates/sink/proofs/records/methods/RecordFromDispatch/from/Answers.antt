use Rattle.std.proofs.Common.{◌≡◌, ap, ◌∙◌, rules}
use Rattle.sink.proofs.Undone.{checked_record}
use Rattle.sink.specs.Records.{checked, record_of}
use Rattle.sink.proofs.records.methods.RecordFromDispatch.from.Goals as goal

pub returns : goal.returns
returns c =
    let value : _ ≡ record_of c.args.dispatch = search rules in
    (value, ap checked value ∙ checked_record c.args.dispatch)
