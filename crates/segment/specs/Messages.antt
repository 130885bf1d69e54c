-- The messages of a segment's events stand within their boxes.
--   stands_within s   the message of each event that a turn over a segment gives stands within its box
use Rattle.std.proofs.Common.{◌≡◌, ℕ, ◌+◌, ◌-◌, ◌≤◌, false, eqb, List, length, drop, Some, None, Ok, Err, Option, Result, refl, arith}
use Rattle.std.proofs.lemmas.List.{length-drop}
use Rattle.std.proofs.lemmas.Bool.{cond_both}
use Rattle.event.specs.declared.events.Message.{Message}
use Rattle.event.specs.declared.faults.Defect.{Defect}
use Rattle.event.specs.declared.spans.Span.{Span}
use Rattle.media.specs.Insides.{Within}
use Rattle.media.specs.declared.walks.Turn.TheVariants.{Clean}
use Rattle.catalogue.specs.Catalogues.{listed}
use Rattle.catalogue.specs.Pairs.{Stream}
use Rattle.segment.specs.Boxes.{Judgement, body, size_of, span}
use Rattle.segment.specs.Emsgs.{Emsg, emsg_of}
use Rattle.segment.specs.Lengths.{body_fits, emsg_fits}
use Rattle.segment.specs.SegmentWalks.{box_gives, box_turn, emsg_event, found, segment_turn, turns}
use Rattle.segment.specs.Segments.{evented, span_of}
use Rattle.segment.specs.declared.segments.Segment.{Segment}
use Rattle.segment.specs.declared.segments.boxes.Size.{Size}
use Rattle.segment.specs.declared.timings.Timing.{Timing}

gives_within : (ts : List Stream) (t : Timing) (m : Message) (e : Emsg) (at k : ℕ) (r : Result Span Defect) → at ≤ m.place → m.place + m.length ≤ at + k → Within at (box_gives at k (evented ts t m e r))
gives_within ts t m e at k (Ok s) lo hi = (lo, hi)
gives_within ts t m e at k (Err d) lo hi = tt

emsg_within : (ts : List Stream) (t : Timing) (at k : ℕ) (o : Option Emsg) → ((e : Emsg) → Some e ≡ o → e.message ≤ k) → Within at (box_gives at k (emsg_event ts t (at + k) o))
emsg_within ts t at k None f = tt
emsg_within ts t at k (Some e) f =
    let short = f e refl in
    gives_within ts t (record { place = at + k - e.message; length = e.message; base64 = false }) e at k (span_of t e) (omega arith) (omega arith)

box_within : (ts : List Stream) (t : Timing) (at : ℕ) (z : Size) (bs : List ℕ) (j : Judgement) → Within at (box_turn ts t at z bs j)
box_within ts t at z bs (Err d) = tt
box_within ts t at z bs (Ok None) = tt
box_within ts t at z bs (Ok (Some v)) =
    emsg_within ts t at (span z (length bs)) (emsg_of v (drop 4 (body z bs)))
    (λ e i. omega (arith, emsg_fits v (drop 4 (body z bs)) e i, length-drop 4 (body z bs), body_fits z bs))

pub segment_within : (ts : List Stream) (t : Timing) (s : Unit {0}) (at : ℕ) (bs : List ℕ) → Within at (segment_turn ts t s at bs)
segment_within ts t s at bs =
    cond_both (eqb (length bs) 0) Clean (box_turn ts t at (size_of bs) bs (found bs)) (Within at) (λ _. tt) (λ _. box_within ts t at (size_of bs) bs (found bs))

pub stands_within : (s : Segment) (g : Unit {0}) (at : ℕ) (bs : List ℕ) → Within at (turns s g at bs)
stands_within s = segment_within (listed s.catalogue.now) s.timing
