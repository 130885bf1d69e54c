use Rattle.std.proofs.Common.{◌*◌, drop}
use Rattle.base64_codec.specs.Texts.{encoded}
use Rattle.base64_codec.proofs.Filling.{Filling}
use Rattle.base64_codec.proofs.encoding.pack.Given as goal

abbrev pub invariant-loop-n : goal.invariant-loop-n
invariant-loop-n l = Filling (encoded l.bytes) (encoded (drop (l.n * 3) l.bytes)) l.initial.out l.out (l.n * 4)
