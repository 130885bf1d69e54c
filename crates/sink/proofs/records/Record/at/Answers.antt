use Rattle.std.proofs.Common.{◌≡◌, true, get_or, drop, take, Some, ap, ◌∙◌, sym, rules}
use Rattle.std.proofs.lemmas.List.{drop-drop, take_rest}
use Rattle.std.proofs.lemmas.Bool.{cond-true}
use Rattle.sink.specs.Records.{marked}
use Rattle.event.proofs.InBytes.{number32, number64}
use Rattle.sink.proofs.records.Record.at.Goals as goal

pub returns : goal.returns
returns c =
    let bs = c.args.bytes.now in
    let one : c.in_ok-position.rest.now ≡ drop 12 bs = c.in_ok-position.ensures.cases.1 ∙ ap (drop 8) (take_rest bs 4) ∙ drop-drop 8 4 bs in
    let two : c.in_ok-start.rest.now ≡ drop 20 bs = c.in_ok-start.ensures.cases.1 ∙ ap (drop 8) one ∙ drop-drop 8 12 bs in
    let three : c.in_ok-duration.rest.now ≡ drop 28 bs = c.in_ok-duration.ensures.cases.1 ∙ ap (drop 8) two ∙ drop-drop 8 20 bs in
    let four : c.in_ok-id.rest.now ≡ drop 32 bs = c.in_ok-id.ensures.cases.1 ∙ ap (drop 4) three ∙ drop-drop 4 28 bs in
    let five : c.in_ok-place.rest.now ≡ drop 36 bs = c.in_ok-place.ensures.cases.1 ∙ ap (drop 4) four ∙ drop-drop 4 32 bs in
    let position = c.from_be_bytes.ensures ∙ number64 bs _ 4 (c.in_ok-position.ensures.cases.0 ∙ ap (take 8) (take_rest bs 4)) in
    let start = c.from_be_bytes-2.ensures ∙ number64 bs _ 12 (c.in_ok-start.ensures.cases.0 ∙ ap (take 8) one) in
    let duration = c.from_be_bytes-3.ensures ∙ number64 bs _ 20 (c.in_ok-duration.ensures.cases.0 ∙ ap (take 8) two) in
    let id = c.from_be_bytes-4.ensures ∙ number32 bs _ 28 (c.in_ok-id.ensures.cases.0 ∙ ap (take 4) three) in
    let place = c.from_be_bytes-5.ensures ∙ number32 bs _ 32 (c.in_ok-place.ensures.cases.0 ∙ ap (take 4) four) in
    let long = c.from_be_bytes-6.ensures ∙ number32 bs _ 36 (c.in_ok-length.ensures.cases.0 ∙ ap (take 4) five) in
    let mark : marked bs ≡ true = search rules in
    (λ i. Some record {
      flags = get_or bs 2 0;
      stream = get_or bs 3 0;
      position = position i;
      start = start i;
      duration = duration i;
      id = id i;
      place = place i;
      length = long i;
    })
    ∙ sym (cond-true _ _ _ mark)
