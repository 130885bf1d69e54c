-- What a table holds.
--   items r      its elements, in their order
--   Behind r q   q left r's slots as they were behind what it holds
use Rattle.std.specs.Prelude.{◌≡◌, List, length, take}
use Rattle.event.specs.Fronts.{front}
use Rattle.player.specs.declared.rows.Rows.{Rows}

abbrev pub items : {X : Type 0} {o : _} → Rows X o → List X
items r = take r.len r.slots.now

abbrev pub Behind : {X : Type 0} {o : _} → Rows X o → Rows X o → Type 0
Behind r q = (q.slots.now ≡ front (items q) r.slots.now) × (length q.slots.now ≡ length r.slots.now)
