use Rattle.base64_codec.proofs.Unpacking.{Unpacking}
use Rattle.base64_codec.proofs.decoding.unpack.Given as goal

abbrev pub invariant-loop-n : goal.invariant-loop-n
invariant-loop-n l = Unpacking l.text l.initial.out l.out l.n
