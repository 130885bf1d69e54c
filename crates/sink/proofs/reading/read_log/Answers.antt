use Rattle.std.proofs.Common.{◌≡◌, sym, ◌∙◌, arith}
use Rattle.event.specs.Numbers.Answer.{did}
use Rattle.sink.specs.Reading.{pieces}
use Rattle.sink.proofs.Filling.{placed_all, placed_not}
use Rattle.sink.proofs.reading.read_log.Goals as goal

pub returns-then-count-list : goal.returns-then-count-list
returns-then-count-list c = placed_not c.args.bytes.now c.args.list.now (sym c.in_ok-check.ensures) (omega arith)

pub returns : goal.returns
returns c =
    let bytes = c.args.bytes.now in
    let whole : c.div_ceil-count.result ≡ pieces bytes = omega arith in
    (λ i. (did (whole i), c.fill.ensures i)) ∙ placed_all bytes c.args.list.now (sym c.in_ok-check.ensures) (omega arith)
