-- The turn over an emsg box, once its parts are read.
use Rattle.std.proofs.Common.{◌≡◌, ℕ, ◌+◌, ◌-◌, ◌<◌, List, length, take, drop, Some, Ok, Option, Result, sym, ap, ◌∙◌, arith}
use Rattle.std.proofs.lemmas.List.{take_rest}
use Rattle.std.proofs.lemmas.Bool.{cond-false, ne_eqb}
use Rattle.event.specs.declared.events.Event.{Event}
use Rattle.event.specs.declared.faults.Defect.{Defect}
use Rattle.media.specs.declared.walks.Turn.TheVariants.{Clean}
use Rattle.catalogue.specs.Pairs.{Stream}
use Rattle.segment.specs.Boxes.{body, judged, kind, size_of, span, version}
use Rattle.segment.specs.Emsgs.{emsg_of}
use Rattle.segment.specs.SegmentWalks.{box_gives, box_turn, emsg_event, found, segment_turn}
use Rattle.segment.specs.declared.segments.boxes.Size.{Size}
use Rattle.segment.specs.declared.timings.Timing.{Timing}
use Rattle.segment.specs.declared.timings.Version.{Version}

pub reads_turn : (ts : List Stream) (t : Timing) (v : Version) (at k : ℕ) (bs cs : List ℕ) (z : Size) (p q : Option ℕ) (r : Result Event Defect) → 0 < length bs → z ≡ size_of bs → cs ≡ body z bs → k ≡ span z (length bs) → p ≡ kind bs → q ≡ version cs → Ok (Some v) ≡ judged z (length bs) p q → r ≡ emsg_event ts t (at + k) (emsg_of v (take (length cs - 4) (drop 4 cs))) → box_gives at k r ≡ segment_turn ts t tt at bs
reads_turn ts t v at k bs cs z p q r h ez ec ek ep eq ej er =
    let ne : length bs ≡ 0 → ⊥ = λ x. omega arith in
    ap (box_gives at k) er ∙
    ap (λ x. box_gives at x (emsg_event ts t (at + x) (emsg_of v (take (length cs - 4) (drop 4 cs))))) ek ∙
    ap (λ x. box_gives at (span z (length bs)) (emsg_event ts t (at + span z (length bs)) (emsg_of v x))) (take_rest cs 4) ∙
    ap (λ x. box_gives at (span z (length bs)) (emsg_event ts t (at + span z (length bs)) (emsg_of v (drop 4 x)))) ec ∙
    ap (box_turn ts t at z bs) (ej ∙ (λ i. judged z (length bs) (ep i) ((eq ∙ ap version ec) i))) ∙
    ap (λ y. box_turn ts t at y bs (judged y (length bs) (kind bs) (version (body y bs)))) ez ∙
    sym (cond-false _ Clean (box_turn ts t at (size_of bs) bs (found bs)) (ne_eqb (length bs) 0 ne))
