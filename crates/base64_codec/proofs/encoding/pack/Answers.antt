use Rattle.std.proofs.Common.{[], get_or, ap, ◌∙◌, arith, rules}
use Rattle.event.specs.Fronts.{front}
use Rattle.base64_codec.specs.Texts.{digits, of_three, packed}
use Rattle.base64_codec.proofs.Filling.{left, room, next}
use Rattle.base64_codec.proofs.Fours.{encoded_on}
use Rattle.base64_codec.proofs.encoding.pack.Goals as goal

pub put-requires : goal.put-requires
put-requires c =
    let on = encoded_on c.args.bytes.now _ c.loop-n.n c.as_chunks.ensures.front (search rules) in
    (search rules, room c.loop-n.invariant (digits (of_three packed (get_or c.as_chunks.result.0.now c.loop-n.n []))) _ on (search rules))

pub loop-n-preserved : goal.loop-n-preserved
loop-n-preserved c =
    let on = encoded_on c.args.bytes.now _ c.loop-n.n c.as_chunks.ensures.front (search rules) in
    next c.loop-n.invariant (digits (of_three packed (get_or c.as_chunks.result.0.now c.loop-n.n []))) _ _ _ on (search rules)
    (c.put.ensures ∙ ap (λ l. front l (left c.loop-n.invariant)) c.four.ensures)
    (omega arith)
