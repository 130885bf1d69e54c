use Rattle.std.proofs.Common.{◌≡◌, ◌+◌, ◌-◌, ◌*◌, ◌++◌, length, refl, ap, ◌∙◌, arith, rules}
use Rattle.event.specs.Fronts.{front}
use Rattle.sink.specs.Readable.{used}
use Rattle.sink.proofs.Growth.{grown}
use Rattle.sink.proofs.Parts.{put_front}
use Rattle.sink.proofs.logs.pages.Page.put.Goals as goal

pub returns : goal.returns
returns c =
    let xs = c.args.self.now.bytes.now in
    let n = c.args.self.now.count in
    let cs = c.written.result in
    let long : length cs ≡ 40 = search rules in
    let same = c.copy_from_slice.ensures.after in
    let bytes : _ ≡ front (used n xs ++ cs) xs = rw same (put_front (40 * n) (40 * n + 40 - 40 * n) xs cs (omega arith) (omega arith)) in
    let g = grown xs _ cs n (n + 1) c.args.dispatch c.requires.room c.requires.readable long c.written.ensures.undone bytes refl in
    record {
      bytes = bytes ∙ ap (λ rs. front (used n xs ++ rs) xs) c.written.ensures.value;
      len = g.long;
      count = refl;
      reads = g.reads;
      lender = refl;
    }
