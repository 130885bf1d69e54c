use Rattle.std.proofs.Common.{Err, length, min, sym, ap, ◌∙◌}
use Rattle.std.proofs.lemmas.Result.{err_from_is_err_and}
use Rattle.std.specs.Slice.Iter.{chunks_rest}
use Rattle.sink.specs.Reading.{verdict}
use Rattle.sink.proofs.Filling.{read_next, read_none, verdict_more, verdict_stop}
use Rattle.sink.proofs.reading.check.Goals as goal

pub loop-piece-preserved : goal.loop-piece-preserved
loop-piece-preserved c =
    let step = c.in-Some.ensures.steps in
    let held = c.loop-piece.invariant in
    let left = chunks_rest c.loop-piece.piece-iterator in
    let next = read_next left c.in-Some.piece.now (chunks_rest c.next.new.self) step.1.0 (step.1.1 ∙ ap (λ n. min n (length left)) held.0) step.1.2 in
    (step.0 ∙ held.0, held.1 ∙ ap verdict next ∙ verdict_more _ _ _ (sym c.in_ok-read_record.ensures))

pub returns-in_err-read_record : goal.returns-in_err-read_record
returns-in_err-read_record c =
    let step = c.in-Some.ensures.steps in
    let held = c.loop-piece.invariant in
    let left = chunks_rest c.loop-piece.piece-iterator in
    let next = read_next left c.in-Some.piece.now (chunks_rest c.next.new.self) step.1.0 (step.1.1 ∙ ap (λ n. min n (length left)) held.0) step.1.2 in
    let out = err_from_is_err_and c.from_residual.result c.from_residual.ensures.1 in
    out.1 ∙ ap Err out.2 ∙ sym (held.1 ∙ ap verdict next ∙ verdict_stop _ _ _ (sym c.in_err-read_record.ensures))

pub returns : goal.returns
returns c = sym (c.loop-piece.invariant.1 ∙ ap verdict (read_none (chunks_rest c.loop-piece.piece-iterator) c.in-None.ensures.steps.1.0))
