-- What a byte log holds.
--   used_of l       the bytes it has written
--   held_in_log l   the dispatches that its used bytes read as, and a free place for each 40 unused bytes
use Rattle.std.specs.Prelude.{ℕ, ◌-◌, ◌*◌, ◌/◌, List, length}
use Rattle.event.specs.Sinks.{Held}
use Rattle.sink.specs.Readable.{used}
use Rattle.sink.specs.Reading.{dispatches, read_log}
use Rattle.sink.specs.declared.logs.ByteLog.{ByteLog}

abbrev pub used_of : ByteLog → List ℕ
used_of l = used l.page.count l.page.bytes.now

abbrev pub held_in_log : ByteLog → Held
held_in_log l = record {
  told = dispatches (read_log (used_of l));
  free = (length l.page.bytes.now - 40 * l.page.count) / 40;
}
