use Rattle.base64_codec.proofs.Undoing.{undone_all}
use Rattle.base64_codec.proofs.encoding.encode.Goals as goal

pub returns-then-out-groups-clause-undone : goal.returns-then-out-groups-clause-undone
returns-then-out-groups-clause-undone c = undone_all c.args.bytes.now c.type_inv.bytes

pub returns-clause-undone : goal.returns-clause-undone
returns-clause-undone c = undone_all c.args.bytes.now c.type_inv.bytes
