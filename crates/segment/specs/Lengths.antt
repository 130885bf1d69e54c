-- Boxes end within the bytes of their segment, so that each turn goes forward.
--   emsg_fits v bs   a message is no longer than the bytes that it stands in
--   body_fits z bs   a body is no longer than its box
--   Usable z n       a box of such a size has bytes, all of them within the n bytes that are left
--   judged_usable    so it is where a reader finds nothing wrong with it
--   goes_forward s   each turn over a segment goes forward, within the bytes that are left
use Rattle.std.proofs.Common.{◌≡◌, ℕ, ◌+◌, ◌-◌, ◌<◌, ◌≤◌, Bool, true, false, is_ok, cond, eqb, ltb, leb, List, length, drop, Some, None, Ok, Err, Option, Result, refl, ap, arith}
use Rattle.std.specs.List.{position_from}
use Rattle.std.proofs.lemmas.List.{length-drop}
use Rattle.std.proofs.lemmas.Bool.{cond_both, eqb-false, ltb-false, or_parts, true≢false}
use Rattle.event.specs.declared.events.Event.{Event}
use Rattle.event.specs.declared.faults.Defect.{Defect}
use Rattle.event.specs.declared.faults.Defect.TheVariants.{BoxSize}
use Rattle.media.specs.Walks.{Forward, Goes}
use Rattle.media.specs.declared.walks.Turn.TheVariants.{Clean}
use Rattle.media.proofs.Parts.{part_fits}
use Rattle.catalogue.specs.Catalogues.{listed}
use Rattle.catalogue.specs.Pairs.{Stream}
use Rattle.segment.specs.Boxes.{Judgement, bad, body, head, judged, kind, size_of, span, typed, version}
use Rattle.segment.specs.Emsgs.{Emsg, Shut, Texts, emsg_of, one_fields, schemed, shut, shut_at, texts, valued, zero_fields}
use Rattle.segment.specs.SegmentWalks.{box_gives, box_turn, emsg_event, found, segment_turn, turns}
use Rattle.segment.specs.declared.segments.Segment.{Segment}
use Rattle.segment.specs.declared.segments.boxes.Size.{Size}
use Rattle.segment.specs.declared.segments.boxes.Size.TheVariants.{Cut, Plain, Large, Rest}
use Rattle.segment.specs.declared.timings.Timing.{Timing}
use Rattle.segment.specs.declared.timings.Version.{Version}
use Rattle.segment.specs.declared.timings.Version.TheVariants.{Zero, One}

none_such : {X : Type 0} (x : X) (P : Type 0) → Some x ≡ None → P
none_such x P e = let z : ◌≡◌ {A = ℕ} 0 1 = cc in absurd (omega arith)

-- what stands behind a string, behind two of them, and behind the fields of a box
shut_at_fits : (o : Option ℕ) (bs : List ℕ) (s : Shut) → Some s ≡ shut_at o bs → length s.rest ≤ length bs
shut_at_fits None bs s e = none_such s (length s.rest ≤ length bs) e
shut_at_fits (Some n) bs s e =
    let r : s.rest ≡ drop (n + 1) bs = cc in omega (arith, ap length r, length-drop (n + 1) bs)

shut_fits : (bs : List ℕ) (s : Shut) → Some s ≡ shut bs → length s.rest ≤ length bs
shut_fits bs s e = shut_at_fits (position_from (λ b. eqb b 0) 0 bs) bs s e

valued_fits : (s : Shut) (o : Option Shut) (n : ℕ) (t : Texts) → ((v : Shut) → Some v ≡ o → length v.rest ≤ n) → Some t ≡ valued s o → length t.rest ≤ n
valued_fits s None n t h e = none_such t (length t.rest ≤ n) e
valued_fits s (Some v) n t h e = let r : t.rest ≡ v.rest = cc in omega (arith, ap length r, h v refl)

schemed_fits : (o : Option Shut) (n : ℕ) (t : Texts) → ((s : Shut) → Some s ≡ o → length s.rest ≤ n) → Some t ≡ schemed o → length t.rest ≤ n
schemed_fits None n t h = none_such t (length t.rest ≤ n)
schemed_fits (Some s) n t h =
    valued_fits s (shut s.rest) n t (λ v e. omega (arith, shut_fits s.rest v e, h s refl))

texts_fits : (bs : List ℕ) (t : Texts) → Some t ≡ texts bs → length t.rest ≤ length bs
texts_fits bs t = schemed_fits (shut bs) (length bs) t (shut_fits bs)

zero_fits : (o : Option Texts) (n : ℕ) (e : Emsg) → ((t : Texts) → Some t ≡ o → length t.rest ≤ n) → Some e ≡ zero_fields o → e.message ≤ n
zero_fits None n e h = none_such e (e.message ≤ n)
zero_fits (Some t) n e h =
    cond_both (leb 16 (length t.rest)) _ None (λ o. Some e ≡ o → e.message ≤ n)
    (λ _ q. let m : e.message ≡ length t.rest - 16 = cc in omega (arith, h t refl))
    (λ _. none_such e (e.message ≤ n))

one_fits : (bs : List ℕ) (o : Option Texts) (n : ℕ) (e : Emsg) → ((t : Texts) → Some t ≡ o → length t.rest ≤ n) → Some e ≡ one_fields bs o → e.message ≤ n
one_fits bs None n e h q = none_such e (e.message ≤ n) q
one_fits bs (Some t) n e h q = let m : e.message ≡ length t.rest = cc in omega (arith, h t refl)

-- a message is no longer than the bytes that it stands in
pub emsg_fits : (v : Version) (bs : List ℕ) (e : Emsg) → Some e ≡ emsg_of v bs → e.message ≤ length bs
emsg_fits Zero bs e = zero_fits (texts bs) (length bs) e (texts_fits bs)
emsg_fits One bs e =
    cond_both (leb 20 (length bs)) (one_fields bs (texts (drop 20 bs))) None (λ o. Some e ≡ o → e.message ≤ length bs)
    (λ _ q. omega (arith, one_fits bs (texts (drop 20 bs)) (length (drop 20 bs)) e (texts_fits (drop 20 bs)) q, length-drop 20 bs))
    (λ _. none_such e (e.message ≤ length bs))

-- a body is no longer than its box
pub body_fits : (z : Size) (bs : List ℕ) → length (body z bs) ≤ span z (length bs)
body_fits z bs = omega (arith, part_fits bs (head z) (span z (length bs)))

-- a box whose size is not bad has bytes, all of them within what is left
pub record Usable (z : Size) (n : ℕ) : Type 0 where
  pub some : 0 < span z n
  pub fits : span z n ≤ n

usable : (z : Size) (n : ℕ) → 0 < n → bad z n ≡ false → Usable z n
usable Cut n h e = absurd (true≢false e)
usable (Plain m) n h e =
    let b = or_parts (ltb m 8) (ltb n m) e in
    record { some = omega (arith, ltb-false m 8 b.0); fits = omega (arith, ltb-false n m b.1) }
usable (Large m) n h e =
    let b = or_parts (ltb m 16) (ltb n m) e in
    record { some = omega (arith, ltb-false m 16 b.0); fits = omega (arith, ltb-false n m b.1) }
usable Rest n h e = record { some = h; fits = omega arith }

-- a reader that steps over a box, or reads it, has found its size good
good : (b : Bool) (u : Option Version) (j : Judgement) → Ok u ≡ cond b (Err BoxSize) j → b ≡ false
good true u j e = absurd (true≢false (ap is_ok e))
good false u j e = refl

pub judged_usable : (z : Size) (n : ℕ) (k v : Option ℕ) (u : Option Version) → 0 < n → Ok u ≡ judged z n k v → Usable z n
judged_usable z n k v u h e = usable z n h (good (bad z n) u (typed k v) e)

gives_forward : (at k n : ℕ) (r : Result Event Defect) → 0 < k → k ≤ n → Goes n (box_gives at k r)
gives_forward at k n (Ok e) lo hi = (lo, hi)
gives_forward at k n (Err d) lo hi = tt

box_forward : (ts : List Stream) (t : Timing) (at : ℕ) (z : Size) (bs : List ℕ) (k v : Option ℕ) (j : Judgement) → 0 < length bs → j ≡ judged z (length bs) k v → Goes (length bs) (box_turn ts t at z bs j)
box_forward ts t at z bs k v (Err d) h e = tt
box_forward ts t at z bs k v (Ok None) h e = let s = judged_usable z (length bs) k v None h e in (s.some, s.fits)
box_forward ts t at z bs k v (Ok (Some w)) h e =
    let s = judged_usable z (length bs) k v (Some w) h e in
    gives_forward at (span z (length bs)) (length bs) (emsg_event ts t (at + span z (length bs)) (emsg_of w (drop 4 (body z bs)))) s.some s.fits

pub segment_forward : (ts : List Stream) (t : Timing) → Forward (segment_turn ts t)
segment_forward ts t s at bs =
    cond_both (eqb (length bs) 0) Clean (box_turn ts t at (size_of bs) bs (found bs)) (Goes (length bs)) (λ _. tt)
    (λ h. let ne = eqb-false (length bs) 0 h in box_forward ts t at (size_of bs) bs (kind bs) (version (body (size_of bs) bs)) (found bs) (omega arith) refl)

pub goes_forward : (s : Segment) → Forward (turns s)
goes_forward s = segment_forward (listed s.catalogue.now) s.timing
