use Rattle.sink.proofs.Slots.{front_more}
use Rattle.sink.proofs.lists.methods.RecordListSink.tell.Goals as goal

pub returns-then-self-clause-slots : goal.returns-then-self-clause-slots
returns-then-self-clause-slots c = front_more c.args.self.now.slots.now c.args.self.now.count c.args.dispatch
