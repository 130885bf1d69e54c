-- What always holds of a player with the kept events ks and the used ids us, besides what each table keeps of itself: that it lies within its slots, and in order.
--   Counted h ks us n   the ids of kept events are counted, and with the used ids they have their places, n of them
--   Single ks us        each id of a stream stands at most once over used ids and kept events together
--   Resting h ks        no kept event is active at the playhead
--   Sound h ks us n     all of these
use Rattle.std.specs.Prelude.{◌≡◌, ℕ, ◌+◌, ◌≤◌, true, List, length, filter}
use Rattle.tables.specs.declared.elements.Kept.{Kept}
use Rattle.tables.specs.declared.elements.UsedId.{UsedId}
use Rattle.player.specs.declared.players.Head.{Head}
use Rattle.tables.specs.Elements.{active_at, has_id, kept_as, used_as}
use Rattle.tables.specs.Tables.{none}

abbrev pub Counted : Head → List Kept → List UsedId → ℕ → Type 0
Counted h ks us n = (h.kept_ids ≡ length (filter has_id ks)) × (length us + h.kept_ids ≤ n)

abbrev pub Single : List Kept → List UsedId → Type 0
Single ks us = (s i : ℕ) → length (filter (used_as s i) us) + length (filter (kept_as s i) ks) ≤ 1

abbrev pub Resting : Head → List Kept → Type 0
Resting h ks = none (active_at h.playhead.ms) ks ≡ true

abbrev pub Sound : Head → List Kept → List UsedId → ℕ → Type 0
Sound h ks us n = Counted h ks us n × Single ks us × Resting h ks
