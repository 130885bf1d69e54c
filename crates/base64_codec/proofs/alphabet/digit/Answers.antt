use Rattle.std.proofs.Common.{refl}
use Rattle.base64_codec.specs.Alphabet.{alphabet}
use Rattle.base64_codec.proofs.alphabet.digit.Goals as goal

pub returns : goal.returns
unfolding alphabet
returns c = refl
