use Rattle.std.proofs.Common.{arith, rules}
use Rattle.std.proofs.lemmas.List.FromFn.{get_or-map-range_with_len}
use Rattle.base64_codec.specs.Alphabet.{alphabet, place, value}
use Rattle.base64_codec.proofs.alphabet.listed.Goals as goal

-- the table is the list of the values of 0 to 255
pub returns : goal.returns
unfolding value place alphabet
returns c = get_or-map-range_with_len value 0 256 c.from.result c.args.c 0 (search rules) (omega arith)
