use Rattle.std.proofs.Common.{rules}
use Rattle.base64_codec.proofs.Fours.{fours_end, nothing, uneven}
use Rattle.base64_codec.proofs.texts.is_text.Goals as goal

pub returns-then-not-is_empty : goal.returns-then-not-is_empty
returns-then-not-is_empty c = uneven c.args.text.now (search rules)

pub returns-in-None : goal.returns-in-None
returns-in-None c = nothing c.args.text.now (search rules)

pub returns-in-Some : goal.returns-in-Some
returns-in-Some c =
    let e = fours_end c.args.text.now _ c.in-Some.before.now c.in-Some.last.now c.as_chunks.ensures.front (search rules) (search rules) c.as_chunks.ensures.front_len in
    cc
