use Rattle.std.proofs.Common.{◌≡◌, ◌+◌, ◌≤◌, length, Some, ap, ◌∙◌, arith}
use Rattle.std.specs.Option.{option_map}
use Rattle.media.specs.Stretches.{left}
use Rattle.media.proofs.Parts.{part_fits}
use Rattle.catalogue.specs.Catalogues.{behind}
use Rattle.catalogue.specs.Pairs.{listing, stream}
use Rattle.catalogue.proofs.Strings.{Stands, entry_stands, stands}
use Rattle.catalogue.proofs.catalogues.Entry.read.Goals as goal

found : (c : goal.In_ok-pair) → Some (stream c.in_ok-pair.pair) ≡ listing (left c.args.stretch c.args.place)
found c = c.in_ok-pair.ensures ∙ ap listing c.left.ensures

it : (c : goal.In_ok-pair) → Stands (left c.args.stretch c.args.place) (stream c.in_ok-pair.pair)
it c = stands (left c.args.stretch c.args.place) (stream c.in_ok-pair.pair) (found c)

ends_within : (c : goal.In_ok-pair) → c.args.place + 4 + length c.in_ok-pair.pair.scheme.now + length c.in_ok-pair.pair.value.now ≤ c.args.stretch.to
ends_within c =
    let f = (it c).fits in
    let p = part_fits c.args.stretch.media.now c.args.place c.args.stretch.to in omega arith

pub overflow_add-end : goal.overflow_add-end
overflow_add-end c = let h = ends_within c in omega arith

pub returns : goal.returns
returns c =
    ap Some (entry_stands c.args.stretch.media.now c.args.place c.args.stretch.to (stream c.in_ok-pair.pair) (it c)) ∙ ap (option_map (behind c.args.place)) (found c)
