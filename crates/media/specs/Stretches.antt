-- A stretch of the media buffer.
--   Extent          the bytes of the buffer, and the places where a stretch of it begins and ends
--   extent s        what a stretch says
--   part s          the bytes of a stretch
--   left s at       the bytes of a stretch from a place on
--   stretch m a b   the stretch of m from a to b, or 5 where m is too long or the stretch is not inside it
--   made r          what the making of a stretch answers
use Rattle.std.specs.Prelude.{ℕ, cond, ◌&&◌, List, length, Ok, Err, Result, nat_le}
use Rattle.std.specs.List.{between}
use Rattle.event.specs.Numbers.{Answer, refusal}
use Rattle.event.specs.Numbers.Answer.{did, refused}
use Rattle.event.specs.declared.refusals.Refusal.{Refusal}
use Rattle.media.specs.declared.stretches.Stretch.{Stretch}

pub record Extent : Type 0 where
  pub media : List ℕ
  pub from : ℕ
  pub to : ℕ

abbrev pub extent : Stretch → Extent
extent s = record { media = s.media.now; from = s.from; to = s.to }

abbrev pub part : Stretch → List ℕ
part s = between s.from s.to s.media.now

abbrev pub left : Stretch → ℕ → List ℕ
left s at = between at s.to s.media.now

abbrev pub stretch : List ℕ → ℕ → ℕ → Answer Extent
stretch m a b =
    cond (nat_le (length m) 65536 && nat_le b (length m) && nat_le a b) (did (record { media = m; from = a; to = b })) (refused 5)

abbrev pub made : Result Stretch Refusal → Answer Extent
made (Ok s) = did (extent s)
made (Err e) = refusal e
