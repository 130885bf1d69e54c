use Rattle.std.proofs.Common.{arith}
use Rattle.std.proofs.lemmas.Bool.Decides.{nat_tests}
use Rattle.base64_codec.proofs.Sizes.{sized}
use Rattle.base64_codec.proofs.decoding.decoded_len.Goals as goal

pub overflow_sub-result : goal.overflow_sub-result
overflow_sub-result c = let s = sized c.args.text.now c.requires in grind (arith, nat_tests)
