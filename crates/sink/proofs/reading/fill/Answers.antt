use Rattle.std.proofs.Common.{◌<◌, length, min, is_ok, set, sym, ap, ◌∙◌, arith, rules}
use Rattle.std.proofs.lemmas.List.{length-set}
use Rattle.std.proofs.lemmas.Bool.{false≢true}
use Rattle.std.specs.Iterator.Adapters.{enumerate_count, enumerate_source}
use Rattle.std.specs.Slice.Iter.{chunks_rest}
use Rattle.sink.specs.Reading.{read_log}
use Rattle.sink.specs.Records.{read_record}
use Rattle.sink.proofs.Filling.{read_next, read_none, filled, filled_more, filled_all, first_ok, fewer}
use Rattle.sink.proofs.Growth.{rest_ok}
use Rattle.sink.proofs.reading.fill.Goals as goal

pub loop-n-preserved-in-Ok : goal.loop-n-preserved-in-Ok
loop-n-preserved-in-Ok c =
    let step = c.in-Some.ensures.steps in
    let held = c.loop-n.invariant in
    let list = c.loop-n.list in
    let n = enumerate_count c.loop-n.n-iterator in
    let left = chunks_rest (enumerate_source c.loop-n.n-iterator) in
    let rest = chunks_rest (enumerate_source c.next.new.self) in
    let first = read_record c.in-Some.piece.now in
    let long = step.0.1.1 ∙ ap (λ m. min m (length left)) held.size in
    let more = read_next left c.in-Some.piece.now rest step.0.1.0 long step.0.1.2 in
    let few = fewer left c.in-Some.piece.now rest step.0.1.0 long step.0.1.2 in
    let ok = ap is_ok (sym more) ∙ held.ok in
    let room : n < length list = omega (arith, few, held.room) in
    record {
      can = search rules;
      ends = tt;
      size = step.0.0 ∙ held.size;
      room = rw length-set (omega (arith, few, held.room, step.2));
      list = (λ i. filled (step.2 i) (set list (step.1 i) c.in-Ok.dispatch) (read_log rest)) ∙ filled_more list n first c.in-Ok.dispatch (read_log rest) room (sym c.in-Ok.ensures) ok ∙ ap (filled n list) (sym more) ∙ held.list;
      ok = rest_ok first (read_log rest) ok;
    }

pub loop-n-preserved : goal.loop-n-preserved
loop-n-preserved c =
    let step = c.in-Some.ensures.steps in
    let held = c.loop-n.invariant in
    let left = chunks_rest (enumerate_source c.loop-n.n-iterator) in
    let rest = chunks_rest (enumerate_source c.next.new.self) in
    let first = read_record c.in-Some.piece.now in
    let long = step.0.1.1 ∙ ap (λ m. min m (length left)) held.size in
    let more = read_next left c.in-Some.piece.now rest step.0.1.0 long step.0.1.2 in
    let ok = ap is_ok (sym more) ∙ held.ok in
    absurd (false≢true (ap is_ok c.in_default.ensures ∙ first_ok first (read_log rest) ok))

pub returns : goal.returns
returns c =
    let left = chunks_rest (enumerate_source c.loop-n.n-iterator) in
    let n = enumerate_count c.loop-n.n-iterator in
    filled_all c.loop-n.list n ∙ ap (filled n c.loop-n.list) (sym (read_none left c.in-None.ensures.steps.0.1.0)) ∙ c.loop-n.invariant.list
