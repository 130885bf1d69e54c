use Rattle.std.proofs.Common.{◌∙◌, arith}
use Rattle.event.proofs.InBytes.{found, number32, number64}
use Rattle.runsheet.proofs.Reading.{times_read}
use Rattle.runsheet.proofs.commands.reading.segment_times.Goals as goal

pub returns : goal.returns
returns c =
    let bs = c.args.bytes.now in
    let earliest = found bs _ 0 8 c.in_ok-chunk_at.ensures in
    let offset = found bs _ 8 8 c.in_ok-chunk_at-2.ensures in
    let media = found bs _ 16 4 c.in_ok-chunk_at-3.ensures in
    let inband = found bs _ 20 8 c.in_ok-chunk_at-4.ensures in
    let ticks = found bs _ 28 4 c.in_ok-chunk_at-5.ensures in
    times_read bs _ _ _ _ _ (omega (arith, ticks.0))
    (c.from_be_bytes.ensures ∙ number64 bs _ 0 earliest.1)
    (c.from_be_bytes-2.ensures ∙ number64 bs _ 8 offset.1)
    (c.from_be_bytes-3.ensures ∙ number32 bs _ 16 media.1)
    (c.from_be_bytes-4.ensures ∙ number64 bs _ 20 inband.1)
    (c.from_be_bytes-5.ensures ∙ number32 bs _ 28 ticks.1)
