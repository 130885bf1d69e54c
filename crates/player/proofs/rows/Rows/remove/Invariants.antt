use Rattle.std.proofs.Common.{◌≡◌, ◌≤◌, drop, length}
use Rattle.std.proofs.lemmas.List.Filters.{FiltersInPlace}
use Rattle.tables.specs.Tables.{fails}
use Rattle.player.specs.Closures.{Computes}
use Rattle.player.proofs.rows.Rows.remove.Given as goal

abbrev pub invariant-loop-i : goal.invariant-loop-i
invariant-loop-i g l =
    ((p : _) → Computes g.F.Fn p l.test → FiltersInPlace (fails p) l.fn.self.slots.now l.slots l.left l.i)
    × (drop l.left l.slots ≡ drop l.left l.fn.self.slots.now)
    × (length l.slots ≡ length l.fn.self.slots.now)
    × (l.left ≤ l.i)
