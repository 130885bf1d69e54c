use Rattle.std.proofs.Common.{◌≡◌}
use Rattle.std.specs.Slice.Iter.{chunks_rest, chunks_size}
use Rattle.sink.specs.Reading.{read_log, verdict}
use Rattle.sink.proofs.reading.check.Given as goal

abbrev pub invariant-loop-piece : goal.invariant-loop-piece
invariant-loop-piece l =
    (chunks_size l.piece-iterator ≡ 40) × (verdict (read_log l.bytes) ≡ verdict (read_log (chunks_rest l.piece-iterator)))
