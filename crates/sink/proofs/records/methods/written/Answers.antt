use Rattle.std.proofs.Common.{ap, ◌∙◌, arith}
use Rattle.sink.proofs.Undone.{read_laid}
use Rattle.sink.specs.Records.{read_record}
use Rattle.sink.proofs.records.methods.written.Goals as goal

pub returns-clause-undone : goal.returns-clause-undone
returns-clause-undone c =
    let r = c.from.result in
    let read = read_laid r (omega arith) (omega arith) (omega arith) (omega arith) (omega arith) (omega arith) in
    ap read_record c.bytes.ensures ∙ read ∙ c.from.ensures.1
