-- A player by its values.
--   State         stream count, playhead, a mode for each stream, kept events and used ids in order, and the places of both tables
--   fresh n k m   a player of n streams before the first call, with k places for events and m for ids
--   tables_fit k m sizes that a player takes: 1 to 256 events, 1 to 1,024 ids
--   ids xs        how many of the events have an id
use Rattle.std.specs.Prelude.{ℕ, Bool, ◌&&◌, List, [], length, replicate, filter, nat_le}
use Rattle.event.specs.declared.modes.Mode.{Mode}
use Rattle.event.specs.declared.modes.Mode.TheVariants.{Off}
use Rattle.event.specs.declared.times.Time.{Time}
use Rattle.event.specs.Times.{time}
use Rattle.tables.specs.declared.elements.Kept.{Kept}
use Rattle.tables.specs.declared.elements.UsedId.{UsedId}
use Rattle.tables.specs.Elements.{has_id}

pub record State : Type 0 where
  pub streams : ℕ
  pub playhead : Time
  pub modes : List Mode
  pub kept : List Kept
  pub used : List UsedId
  pub places : ℕ
  pub id_places : ℕ

abbrev pub fresh : ℕ → ℕ → ℕ → State
fresh n k m = record { streams = n; playhead = time 0; modes = replicate 32 Off; kept = []; used = []; places = k; id_places = m }

abbrev pub tables_fit : ℕ → ℕ → Bool
tables_fit k m = (nat_le 1 k && nat_le k 256) && (nat_le 1 m && nat_le m 1024)

abbrev pub ids : List Kept → ℕ
ids xs = length (filter has_id xs)
