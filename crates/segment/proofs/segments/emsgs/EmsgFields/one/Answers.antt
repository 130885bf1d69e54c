use Rattle.std.proofs.Common.{take, drop, ap, ◌∙◌, arith}
use Rattle.std.proofs.lemmas.List.{drop-drop}
use Rattle.segment.specs.Emsgs.{names}
use Rattle.segment.proofs.Closings.{one_from}
use Rattle.event.proofs.InBytes.{number32, number64}
use Rattle.segment.proofs.segments.emsgs.EmsgFields.one.Goals as goal

pub returns : goal.returns
returns c =
    let bs = c.args.bytes.now in
    let scale = c.in_ok-timescale.ensures.cases in
    let time = c.in_ok-time.ensures.cases in
    let duration = c.in_ok-duration.ensures.cases in
    let id = c.in_ok-id.ensures.cases in
    let behind_time = time.1 ∙ ap (drop 8) scale.1 ∙ drop-drop 8 4 bs in
    let behind_duration = duration.1 ∙ ap (drop 4) behind_time ∙ drop-drop 4 12 bs in
    let behind_id = id.1 ∙ ap (drop 4) behind_duration ∙ drop-drop 4 16 bs in
    one_from bs _ _ _ _ _ (names c.in_ok-names.names) (omega (arith, scale.2, time.2, duration.2, id.2))
    (c.from_be_bytes.ensures ∙ number32 bs _ 0 scale.0)
    (c.from_be_bytes-2.ensures ∙ number64 bs _ 4 (time.0 ∙ ap (take 8) scale.1))
    (c.from_be_bytes-3.ensures ∙ number32 bs _ 12 (duration.0 ∙ ap (take 4) behind_time))
    (c.from_be_bytes-4.ensures ∙ number32 bs _ 16 (id.0 ∙ ap (take 4) behind_duration))
    behind_id c.in_ok-names.ensures
