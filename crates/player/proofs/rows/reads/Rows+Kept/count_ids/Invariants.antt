use Rattle.std.proofs.Common.{◌≡◌, ◌≤◌, take}
use Rattle.calls.specs.State.{ids}
use Rattle.player.proofs.rows.reads.Rows+Kept.count_ids.Given as goal

-- the ids of the events that the loop came by
abbrev pub invariant-loop-event : goal.invariant-loop-event
invariant-loop-event l = (l.count ≡ ids (take l.event-index l.event-items)) × (l.count ≤ l.event-index)
