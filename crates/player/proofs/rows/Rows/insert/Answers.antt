use Rattle.std.proofs.Common.{rules}
use Rattle.player.proofs.Fronts.{inserted_here}
use Rattle.player.proofs.rows.Rows.insert.Goals as goal

pub invariant_of-self-2 : goal.invariant_of-self-2
invariant_of-self-2 g c =
    let laws = g.met.T.Ordered in
    let before = g.T.Ordered.before in
    let self = c.args.self.now in
    let point = c.partition_point-place.ensures in
    let done = inserted_here before laws.opposite laws.further c.args.x self.slots.now self.len self.within self.ordered c.requires c.items.result.now c.items.ensures c.partition_point-place.result
    point.bound point.partitioned (λ a r f' k. search rules) c.rotate_right.new.self c.rotate_right.ensures.after in
    record { within = done.within; ordered = done.ordered }

pub returns : goal.returns
returns g c =
    let laws = g.met.T.Ordered in
    let before = g.T.Ordered.before in
    let self = c.args.self.now in
    let point = c.partition_point-place.ensures in
    let done = inserted_here before laws.opposite laws.further c.args.x self.slots.now self.len self.within self.ordered c.requires c.items.result.now c.items.ensures c.partition_point-place.result
    point.bound point.partitioned (λ a r f' k. search rules) c.rotate_right.new.self c.rotate_right.ensures.after in
    record { items = done.items; behind = (done.slots, done.places) }
