use Rattle.std.proofs.Common.{◌≡◌, ◌+◌, ◌<◌, length, map, take, set, None, sym, ap, ◌∙◌, arith}
use Rattle.std.specs.Option.{option_map}
use Rattle.event.specs.Numbers.Answer.{did}
use Rattle.media.specs.Stretches.{left}
use Rattle.catalogue.specs.Catalogues.{ends, listed, named}
use Rattle.catalogue.specs.Pairs.{listing}
use Rattle.catalogue.proofs.Listings.{free, pushed, room, settled_at}
use Rattle.catalogue.proofs.catalogues.Catalogue.add.Goals as goal
use Rattle.catalogue.proofs.catalogues.Catalogue.add.Goals.{In_ok-admit}

has_room : (c : In_ok-admit) → c.args.self.now.count.count < 32
has_room c =
    let s = c.args.self.now in
    let m = s.stretch.media.now in
    let l : length s.entries ≡ 32 = omega arith in
    free m s.entries s.count.count l (room (ends m c.in_ok-entry.entry).1 (listed s) c.in_ok-admit.ensures)

pub bounds-self-from : goal.bounds-self-from
bounds-self-from c =
    let h = has_room (goal.at.bounds-self-from c).In_ok-admit in
    omega (arith, c.from.ensures, c.count.ensures)

pub returns-clause-lists : goal.returns-clause-lists
returns-clause-lists c =
    let s = c.args.self.now in
    let m = s.stretch.media.now in
    let e = c.in_ok-entry.entry in
    let h = has_room (goal.at.returns-clause-lists c).In_ok-admit in
    let l : length s.entries ≡ 32 = omega arith in
    let at : c.from.result ≡ s.count.count = c.from.ensures ∙ c.count.ensures in
    let more : c.at_most-self.result.count ≡ s.count.count + 1 = omega (arith, c.at_most-self.ensures, c.count-2.ensures) in
    (λ i. (did e.end, map (named m) (take (more i) (set s.entries (at i) e)))) ∙
    ap (λ ts. (did e.end, ts)) (pushed m s.entries s.count.count e (omega arith)) ∙
    settled_at c.args.place (listing (left s.stretch c.args.place)) (listed s) None (ends m e) (ap (option_map (ends m)) (sym c.in_ok-entry.ensures.ok_part) ∙ c.read.ensures) c.in_ok-admit.ensures
