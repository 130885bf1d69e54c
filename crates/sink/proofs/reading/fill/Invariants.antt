use Rattle.std.proofs.Common.{◌≡◌, ◌+◌, ◌≤◌, true, is_ok, length}
use Rattle.event.specs.Fronts.{front}
use Rattle.std.specs.Iterator.Adapters.{enumerate_count, enumerate_source}
use Rattle.std.specs.Slice.Iter.{chunks_rest, chunks_size}
use Rattle.sink.specs.Reading.{dispatches, pieces, read_log}
use Rattle.sink.proofs.Filling.{filled}
use Rattle.sink.proofs.reading.fill.Given as goal

abbrev pub invariant-loop-n : goal.invariant-loop-n
invariant-loop-n l =
    let pieces_left = enumerate_source l.n-iterator in
    let rest = chunks_rest pieces_left in
    let n = enumerate_count l.n-iterator in record {
      can : (goal.iterator-loop-n).can_next l.n-iterator;
      ends : (goal.iterator-loop-n).is_finite l.n-iterator;
      size : chunks_size pieces_left ≡ 40;
      room : n + pieces rest ≤ length l.list;
      list : filled n l.list (read_log rest) ≡ front (dispatches (read_log l.bytes)) l.initial.list;
      ok : is_ok (read_log rest) ≡ true;
    }
