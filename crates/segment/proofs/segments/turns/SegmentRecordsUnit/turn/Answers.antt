use Rattle.std.proofs.Common.{◌≡◌, ◌+◌, ◌≤◌, length, sym, ap, ◌∙◌, Ok, arith}
use Rattle.std.proofs.lemmas.Bool.{eqb-false}
use Rattle.media.specs.Stretches.{left}
use Rattle.media.proofs.Parts.{part_fits}
use Rattle.catalogue.specs.Catalogues.{listed}
use Rattle.segment.specs.Lengths.{judged_usable}
use Rattle.segment.specs.SegmentWalks.{box_gives, segment_turn}
use Rattle.segment.proofs.SegmentTurns.{reads_turn}
use Rattle.segment.proofs.segments.turns.SegmentRecordsUnit.turn.Goals as goal
use Rattle.segment.proofs.segments.turns.SegmentRecordsUnit.turn.Goals.{After-event, In-Ok-Some}

pub overflow_cast-result : goal.overflow_cast-result
overflow_cast-result c =
    let long = part_fits c.args.stretch.media.now c.args.place c.args.stretch.to in
    let apart = eqb-false (length c.left-bytes.result.now) 0 (sym c.if-is_empty.ensures) in
    let good = judged_usable c.of-size.result (length c.left-bytes.result.now) c.kind.result c.version.result _ (omega arith) c.in-Ok-None.ensures in
    omega (arith, ap length c.left-bytes.ensures)

-- a box that is read ends within the stretch
within : (c : In-Ok-Some) → c.args.place + c.span-span.result ≤ c.args.stretch.to
within c =
    let long = part_fits c.args.stretch.media.now c.args.place c.args.stretch.to in
    let apart = eqb-false (length c.left-bytes.result.now) 0 (sym c.if-is_empty.ensures) in
    let good = judged_usable c.of-size.result (length c.left-bytes.result.now) c.kind.result c.version.result _ (omega arith) c.in-Ok-Some.ensures in
    let some = good.some in
    omega (arith, ap length c.left-bytes.ensures)

pub overflow_cast-span : goal.overflow_cast-span
overflow_cast-span c = let fits = within (goal.at.overflow_cast-span c).In-Ok-Some in omega arith

pub overflow_add-place : goal.overflow_add-place
overflow_add-place c = let fits = within (goal.at.overflow_add-place c).In-Ok-Some in omega arith

pub overflow_cast-result-in-Ok : goal.overflow_cast-result-in-Ok
overflow_cast-result-in-Ok c = let fits = within (goal.at.overflow_cast-result-in-Ok c).In-Ok-Some in omega arith

-- the turn over it
gives : (c : After-event) → box_gives c.args.place c.span-span.result c.event.result ≡ segment_turn (listed c.args.self.now.catalogue.now) c.args.self.now.timing tt c.args.place (left c.args.stretch c.args.place)
gives c =
    let self = c.args.self.now in let bytes = c.left-bytes.result.now in
    let apart = eqb-false (length bytes) 0 (sym c.if-is_empty.ensures) in
    reads_turn (listed self.catalogue.now) self.timing c.in-Ok-Some.version c.args.place c.span-span.result bytes c.body-body.result.now c.of-size.result c.kind.result c.version.result c.event.result (omega arith) c.of-size.ensures c.body-body.ensures c.span-span.ensures c.kind.ensures c.version.ensures (ap Ok (sym c.in-Ok-Some.field-0-is) ∙ c.in-Ok-Some.ensures) c.event.ensures ∙
    ap (segment_turn (listed self.catalogue.now) self.timing tt c.args.place) c.left-bytes.ensures

pub returns-in-Ok : goal.returns-in-Ok
returns-in-Ok c =
    ap (box_gives c.args.place c.span-span.result) (sym c.in-Ok.is) ∙ gives (goal.at.returns-in-Ok c).After-event

pub returns-in-Err-event : goal.returns-in-Err-event
returns-in-Err-event c =
    c.fault-in-Err-event.ensures ∙ ap (box_gives c.args.place c.span-span.result) (sym c.in-Err-event.is) ∙ gives (goal.at.returns-in-Err-event c).After-event
