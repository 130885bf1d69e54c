use Rattle.std.proofs.Common.{◌≡◌, None, sym, subst}
use Rattle.media.specs.Insides.{AllInside}
use Rattle.media.specs.Reaches.{Exactly, NoneAtFault, stand}
use Rattle.media.specs.Stretches.{part}
use Rattle.media.proofs.Messages.{all_inside}
use Rattle.media.proofs.Reaches.{clean_exactly}
use Rattle.media.proofs.readers.Reader.new.Goals as goal

pub returns-clause-inside : goal.returns-clause-inside
returns-clause-inside g c =
    let m = c.args.stretch in let r = c.args.rules in
    subst (AllInside m.from m.to) (sym c.next-ready.ensures) (all_inside (g.R.Records.turns r) (g.met.R.Records.forward r) (g.met.R.Records.within r) c.args.state m)

pub returns-clause-clean : goal.returns-clause-clean
returns-clause-clean g c =
    let m = c.args.stretch in let turn = g.R.Records.turns c.args.rules in let start = stand c.args.state m.from (part m) in
    subst (λ x. Exactly (x.ending ≡ None) (NoneAtFault turn start)) (sym c.next-ready.ensures) (clean_exactly turn (g.met.R.Records.forward c.args.rules) start)
